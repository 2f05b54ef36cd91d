use Rattle.std.proofs.Common.{◌-◌, length}
use Rattle.pc_tighten.specs.models.Drafts.{draft_rows}
use Rattle.pc_tighten.specs.models.Listing.{listed_of, IsList}
use Rattle.pc_tighten.proofs.listing.reachable.Given as goal

abbrev pub invariant-loop-done : goal.invariant-loop-done
invariant-loop-done l = IsList (draft_rows l.rows) (listed_of l.listing) l.done

abbrev pub decreases-loop-done : goal.decreases-loop-done
decreases-loop-done l = length l.rows - l.done
