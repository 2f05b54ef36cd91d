use Rattle.std.proofs.Common.{◌∙◌, sym, refl}
use Rattle.pc_vm.proofs.Lists.{meets-behind, meets-here}
use Rattle.pc_vm.proofs.pending.any_meet.Goals as goal

pub loop-at-preserved : goal.loop-at-preserved
loop-at-preserved c = c.loop-at.invariant ∙ meets-behind c.args.stores.now _ c.loop-at.at _ c.loop-at-test.true refl c.if-any_meets.ensures

pub returns-then-any_meets : goal.returns-then-any_meets
returns-then-any_meets c = meets-here c.args.stores.now _ c.loop-at.at _ c.loop-at-test.true refl c.if-any_meets.ensures ∙ sym c.loop-at.invariant
