-- The listing with the counts of a run.
use Rattle.std.proofs.Common.{◌≡◌, ℕ, List, ap, ◌∙◌}
use Rattle.pc_count.specs.Counts.{RunProfile}
use Rattle.pc_object.specs.ObjectText.{CodeWithNotes}
use Rattle.pc_profiler.specs.Cost.{tally_of}
use Rattle.pc_view.specs.Listing.{tallied_listing_text}
use Rattle.pc_view.specs.Tally.{RunTally}

-- the listing of an object that was run tells the counts of the run
pub run_listing : (object after : CodeWithNotes) (tally : RunTally) (profile run : RunProfile) (text : List ℕ) → text ≡ tallied_listing_text tally after
    → tally ≡ tally_of profile → profile ≡ run → after ≡ object → text ≡ tallied_listing_text (tally_of run) object
run_listing object after tally profile run text is counts of same =
    is ∙ ap (λ t. tallied_listing_text t after) (counts ∙ ap tally_of of) ∙ ap (λ o. tallied_listing_text (tally_of run) o) same
