use Rattle.std.proofs.Common.{sym, subst}
use Rattle.pc_lower.specs.models.Drafts.{Draft, CanPlace}
use Rattle.pc_lower.specs.contracts.draft.Draft.{the_view}
use Rattle.pc_lower.proofs.Drafts.{place_keeps}
use Rattle.pc_lower.proofs.draft.Draft.place.Goals as goal

pub invariant_of-self : goal.invariant_of-self
invariant_of-self c =
    let can = subst (λ (draft : Draft). CanPlace draft c.args.at c.args.node c.args.inside) (sym c.self.view_is) c.requires.can in
    rw (c.set.ensures, c.set-2.ensures, c.set-3.ensures)
    (place_keeps (the_view c.self.inside) c.args.at c.args.node c.args.inside c.self.invariant can)
