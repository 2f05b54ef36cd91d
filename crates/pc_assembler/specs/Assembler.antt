-- What the assembler promises.
use Rattle.std.specs.Prelude.{◌≡◌, ℕ, List, Option, Some, None}
use Rattle.std.specs.Borrow.{Bor}
use Rattle.pc_object.specs.ObjectText.{CodeWithNotes, object_text}
use Rattle.pc_outside.specs.Shelf.{Shelved, HoldsFile, OnlyFileDiffers, ReadFaultOf, ReadKeeps, WriteFaultOf}
use Rattle.pc_command.specs.Requests.{AssembleRequest}
use Rattle.pc_driver.specs.Files.{HasText, HoldsText}
use Rattle.pc_driver.specs.Objects.{Loads}
use Rattle.pc_assembler.specs.Faults.{HasTextFault, IsListingOf, IsSomeListing}
use Rattle.pc_assembler.specs.Outside.{Surroundings}
use Rattle.pc_assembler.specs.Told.{Told}
use Rattle.pc_assembler.specs.declared.fault.AssemblerFault.{AssemblerFault}
use Rattle.pc_assembler.specs.declared.fault.AssemblerFault.TheVariants.{NoMemory, Usage, ReadText, Text, WriteObject}
use Rattle.pc_assembler.specs.declared.fault.TextFault.{TextFault}

-- TEXT held a listing of this object, which loads; OBJ holds exactly its bytes now, and all else is as before.
pub record WritesObject (request : AssembleRequest) (object : CodeWithNotes) (old new : Shelved) : Type 0 where
  pub text : List ℕ
  pub in_file : HasText old.held request.text text
  pub listing : IsListingOf text object
  pub loads : Loads object
  pub written : HoldsFile old.held new.held request.object (object_text object)

-- What stands where memory ran out: nothing was written; or TEXT held a listing, and at most OBJ differs.
pub data AssemblerLacks (old new : Shelved) : (given : Option AssembleRequest) → Type 0 where
  Early : {given : Option AssembleRequest} →
      ReadKeeps old new →
      AssemblerLacks old new given
  Writing : {request : AssembleRequest} →
      HoldsText old.held request.text IsSomeListing →
      OnlyFileDiffers old.held new.held request.object →
      AssemblerLacks old new (Some request)

-- How the assembler ends, by what is due: what was given, and what stands on the shelf.
pub data AssemblerEnds (old new : Shelved) : (given : Option AssembleRequest) (due : Option AssemblerFault) → Type 0 where
  -- the object of the listing is written
  Assembled : {request : AssembleRequest} {object : CodeWithNotes} →
      WritesObject request object old new →
      AssemblerEnds old new (Some request) None
  -- the words are no command
  Misused :
      new ≡ old →
      AssemblerEnds old new None (Some Usage)
  -- the shelf had a read fault of TEXT
  Unread : {request : AssembleRequest} {name : Bor (List ℕ)} →
      request.text ≡ name.now →
      ReadKeeps old new →
      ReadFaultOf old new name.now →
      AssemblerEnds old new (Some request) (Some (ReadText name))
  -- TEXT has a text with this fault
  Refused : {request : AssembleRequest} {what : TextFault} →
      ReadKeeps old new →
      HoldsText old.held request.text (λ text. HasTextFault text what) →
      AssemblerEnds old new (Some request) (Some (Text what))
  -- TEXT is a listing, and the shelf had a write fault of OBJ
  Unwritten : {request : AssembleRequest} {name : Bor (List ℕ)} →
      request.object ≡ name.now →
      HoldsText old.held request.text IsSomeListing →
      OnlyFileDiffers old.held new.held name.now →
      WriteFaultOf old new name.now →
      AssemblerEnds old new (Some request) (Some (WriteObject name))
  -- memory ran out
  Lacking : {given : Option AssembleRequest} →
      AssemblerLacks old new given →
      AssemblerEnds old new given (Some NoMemory)

-- What the assembler promises of the outside before and after it: it came to an end, and what was due then is reported.
pub record AssemblerPromise (given : Option AssembleRequest) (old new : Surroundings) (code : ℕ) : Type 0 where
  pub due : Option AssemblerFault
  pub ends : AssemblerEnds old.shelf new.shelf given due
  pub told : Told due old.err new.err code
