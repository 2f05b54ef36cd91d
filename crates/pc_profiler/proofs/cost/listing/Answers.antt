-- The listing is that of the object and of its run's counts.
use Rattle.pc_count.specs.Counts.{profile_of}
use Rattle.pc_object.specs.ObjectText.{object_of}
use Rattle.pc_profiler.specs.Cost.{profile_on}
use Rattle.pc_view.specs.Tally.{tallied}
use Rattle.pc_profiler.proofs.Listings.{run_listing}
use Rattle.pc_profiler.proofs.cost.listing.Goals as goal

pub returns : goal.returns
returns c =
    let ran = c.in_ok-object.field-0 in
    run_listing (object_of c.args.object) (object_of ran.object) (tallied c.tally_of.result) (profile_of ran.profile)
    (profile_on c.args.cycles (object_of c.args.object) c.args.numbers) c.in_ok-tallied_listing_text.field-0.items
    c.in_ok-tallied_listing_text.ensures c.tally_of.ensures c.in_ok-object.ensures.is c.in_ok-object.ensures.same
