use Rattle.pc_tighten.specs.models.Drafts.{draft_rows}
use Rattle.pc_tighten.specs.models.Raising.{HasRaised, weigh, place_of}
use Rattle.pc_tighten.proofs.raising.raise_row.Given as goal

abbrev pub invariant-loop-first : goal.invariant-loop-first
invariant-loop-first l = HasRaised l.limits l.parents l.fn.rows.items l.rows.items l.moved

abbrev pub decreases-loop-first : goal.decreases-loop-first
decreases-loop-first l = weigh (place_of l.parents.listing.places.items) 0 (draft_rows l.rows.items)
