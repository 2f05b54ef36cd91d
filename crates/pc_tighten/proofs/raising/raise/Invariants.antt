use Rattle.std.proofs.Common.{◌<◌, length}
use Rattle.pc_tighten.specs.models.Drafts.{draft_rows}
use Rattle.pc_tighten.specs.models.Raising.{Raises, weigh, place_of}
use Rattle.pc_tighten.proofs.raising.raise.Given as goal

abbrev pub invariant-loop-next : goal.invariant-loop-next
invariant-loop-next l = (l.row < length l.rows.items) × Raises l.limits l.parents.listing.places.items 1 l.fn.rows.items l.rows.items

abbrev pub decreases-loop-next : goal.decreases-loop-next
decreases-loop-next l = weigh (place_of l.parents.listing.places.items) 0 (draft_rows l.rows.items)
