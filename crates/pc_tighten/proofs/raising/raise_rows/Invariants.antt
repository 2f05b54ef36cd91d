use Rattle.pc_tighten.specs.models.Raising.{HasRaised, AreSettledIf, IsAmongFirst}
use Rattle.pc_tighten.proofs.raising.raise_rows.Given as goal

abbrev pub invariant-loop-row : goal.invariant-loop-row
invariant-loop-row l = record {
  raised : HasRaised l.limits l.parents l.fn.rows.items l.rows.items l.moved;
  settled : AreSettledIf l.limits l.parents (IsAmongFirst l.parents.listing.order.items l.row-index) l.rows.items l.moved;
}
