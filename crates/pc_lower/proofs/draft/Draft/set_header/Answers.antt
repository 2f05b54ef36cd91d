use Rattle.std.proofs.Common.{sym, subst, length, ◌<◌}
use Rattle.pc_lower.specs.models.Drafts.{Draft}
use Rattle.pc_lower.specs.contracts.draft.Draft.{the_view}
use Rattle.pc_lower.proofs.LoopMarks.{header_put_at}
use Rattle.pc_lower.proofs.Drafts.{header_keeps}
use Rattle.pc_lower.proofs.draft.Draft.set_header.Goals as goal

pub invariant_of-self : goal.invariant_of-self
invariant_of-self c =
    let there = subst (λ (draft : Draft). c.args.number < length draft.graph.loops) (sym c.self.view_is) c.requires.there in
    rw (c.set.ensures, c.as_slice.ensures, header_put_at c.self.inside.loops c.args.number c.args.header _ there)
    (header_keeps (the_view c.self.inside) c.args.number c.args.header c.self.invariant)
