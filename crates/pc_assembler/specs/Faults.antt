-- Which texts are listings of objects, and why another is refused, as it is reported to a user.
use Rattle.std.specs.Prelude.{◌≡◌, ℕ, ◌<◌, ◌≤◌, List, length, Option, Some, None, option_map, Ok, Err}
use Rattle.pc_object.specs.ObjectText.{CodeWithNotes}
use Rattle.pc_report.specs.declared.fault.ObjectFault.{ObjectFault}
use Rattle.pc_assembly.specs.declared.error.Place.{Place}
use Rattle.pc_assembly.specs.declared.error.ListingError.{ListingError}
use Rattle.pc_assembly.specs.declared.error.ListingError.TheVariants as error
use Rattle.pc_assembly.specs.Object.{listing_reading}
use Rattle.pc_driver.specs.Objects.{told_of_object}
use Rattle.pc_assembler.specs.declared.fault.TextFault.{TextFault}
use Rattle.pc_assembler.specs.declared.fault.TextFault.TheVariants as fault

-- bytes of a text
abbrev pub most_text : ℕ
most_text = 4294967296

-- ---- listings

-- the text is not too long, and is read as this object
pub record IsListingOf (text : List ℕ) (object : CodeWithNotes) : Type 0 where
  pub few_bytes : length text ≤ most_text
  pub read : listing_reading text ≡ Ok object

-- the text is a listing of some object
abbrev pub IsSomeListing : List ℕ → Type 0
IsSomeListing text = (object : CodeWithNotes) × IsListingOf text object

-- the text is a listing of none
abbrev pub IsNoListing : List ℕ → Type 0
IsNoListing text = (object : CodeWithNotes) → IsListingOf text object → ⊥

-- ---- refusals

-- an object with a fault, for what stands at this place of its listing
abbrev pub object_at : Place → ObjectFault → TextFault
object_at at what = fault.Object at what

-- how the first thing that is wrong with a listing is reported; want of memory is none
abbrev pub told_of_listing : ListingError → Option TextFault
told_of_listing (error.Unexpected at expected) = Some (fault.Unexpected at expected)
told_of_listing (error.Refused at why) = option_map (object_at at) (told_of_object why)
told_of_listing error.TooLong = Some fault.ObjectTooLong
told_of_listing error.Memory = None

-- the text has this fault: it is too long, or this is the first thing that is wrong with it
pub data HasTextFault (text : List ℕ) : (what : TextFault) → Type 0 where
  Long_text : most_text < length text → HasTextFault text fault.TooLong
  Unread_text : {why : ListingError} {what : TextFault} →
      length text ≤ most_text →
      listing_reading text ≡ Err why →
      told_of_listing why ≡ Some what →
      HasTextFault text what
