use Rattle.std.proofs.Common.{sym, subst}
use Rattle.pc_lower.specs.models.Drafts.{Draft, CanAim}
use Rattle.pc_lower.specs.LoopTests.{HasTest}
use Rattle.pc_lower.specs.contracts.draft.Draft.{the_view}
use Rattle.pc_lower.proofs.Drafts.{aim_keeps}
use Rattle.pc_lower.proofs.draft.Draft.aim.Goals as goal

pub invariant_of-self : goal.invariant_of-self
invariant_of-self c =
    let can = subst (λ (draft : Draft). CanAim draft c.args.at c.args.on c.args.yes c.args.no c.args.turn) (sym c.self.view_is) c.requires.can in
    let test = subst (λ (draft : Draft). HasTest draft.graph c.args.at c.args.turn) (sym c.self.view_is) c.requires.test in
    rw c.set.ensures (aim_keeps (the_view c.self.inside) c.args.at c.args.on c.args.yes c.args.no c.args.turn c.self.invariant can test)
