-- What is left, settled and begun, arrives at a claim.
use Rattle.std.proofs.Common.{◌≡◌, inl, inr, Bool, true, false, refl}
use Rattle.pc_machine.specs.declared.tree.Leaf.TheVariants.{Goto}
use Rattle.pc_certified.specs.Claims.{ArrivesAt}
use Rattle.pc_certified.specs.LeafAgrees.{LeafAgrees, leaf_arrives, region_arrives}
use Rattle.pc_settling.specs.Settled.{settled}
use Rattle.pc_settling.specs.Laws.{GoesOn, LeavesLeadOn, RegionsLeadOn}
use Rattle.pc_settling.proofs.FoundArrivals.{found_arrivals}
use Rattle.pc_settling.proofs.FoundProgress.{found_progress}
use Rattle.pc_settling.proofs.BegunLaws.{begun_agrees, entered_agrees, begun_agrees_in_region}
use Rattle.pc_settling.proofs.SettledLaws.{settled_agrees_law, settled_proper}

pub leaves_lead_on : LeavesLeadOn
leaves_lead_on table limits claims claim next opening w held begun room proper there begins arrives goes =
    let found = found_arrivals next begun.window begun.facts arrives in
    settled_agrees_law table limits claims claim (Goto next.row) w held (choose begun.entered refl goes found)
  where
    choose : (b : Bool) → begun.entered ≡ b → GoesOn claim next begun → ArrivesAt begun.window begun.facts next
        → LeafAgrees table limits claims claim (settled w held).facts (Goto next.row) (settled w held).window
    choose true e goes found =
        entered_agrees table limits claims claim (Goto next.row) opening (settled w held) begun room begins e (region_arrives next there found)
    choose false e (inl some) found = absurd (cc)
    choose false e (inr progress) found =
        begun_agrees table limits claims claim (Goto next.row) opening (settled w held) begun (settled_proper w held proper) begins e (
        leaf_arrives next there ((found_progress claim next begun.window).0 progress) found
        )

pub regions_lead_on : RegionsLeadOn
regions_lead_on table limits claims next opening left begun room proper there begins arrives =
    begun_agrees_in_region table limits claims (Goto next.row) opening left begun room proper begins (
    region_arrives next there (found_arrivals next begun.window begun.facts arrives)
    )
