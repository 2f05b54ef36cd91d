use Rattle.pc_tighten.specs.models.Drafts.{draft_rows}
use Rattle.pc_tighten.specs.models.Parents.{AreParents}
use Rattle.pc_tighten.specs.models.Raising.{Raises, weigh, place_of}
use Rattle.pc_tighten.proofs.raising.raise_all.Given as goal

abbrev pub invariant-loop-parents : goal.invariant-loop-parents
invariant-loop-parents l = record {
  parents : AreParents (draft_rows l.fn.rows.items) l.parents;
  raises : Raises l.limits l.parents.listing.places.items 0 l.fn.rows.items l.rows.items;
}

abbrev pub decreases-loop-parents : goal.decreases-loop-parents
decreases-loop-parents l = weigh (place_of l.parents.listing.places.items) 0 (draft_rows l.rows.items)
