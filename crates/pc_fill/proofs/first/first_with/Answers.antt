use Rattle.std.proofs.Common.{◌∙◌, sym}
use Rattle.pc_fill.proofs.AtPlaces.{found_here}
use Rattle.pc_fill.proofs.first.first_with.Goals as goal

pub returns : goal.returns
returns c =
    found_here c.args.window.now c.args.place c.args.first c.requires.first c.in-Some.it c.in-Some.ensures c.requires.scoped c.is_ready.result
    (sym c.comes_before.ensures ∙ c.if-not-comes_before.false) c.is_ready.ensures c.if-not-is_ready.false
