-- What each private answer of the viewer says of the outside before and after it.
use Rattle.std.specs.Prelude.{◌≡◌, ℕ, List, Option, Some, None}
use Rattle.std.specs.Borrow.{Bor}
use Rattle.std.specs.Io.KnownBytes.{Appends}
use Rattle.pc_word.specs.Count.{Rose}
use Rattle.pc_object.specs.ObjectText.{CodeWithNotes}
use Rattle.pc_object.specs.declared.refusal.ObjectError.{ObjectError}
use Rattle.pc_object.specs.declared.refusal.ObjectError.TheVariants as error
use Rattle.pc_outside.specs.Shelf.{Files, ReadFaultOf, Shelved}
use Rattle.pc_outside.specs.Stream.{AppendsPart}
use Rattle.pc_command.specs.Requests.{ViewRequest}
use Rattle.pc_report.specs.declared.fault.ObjectFault.{ObjectFault}
use Rattle.pc_report.specs.declared.fault.ObjectFault.TheVariants as object
use Rattle.pc_driver.specs.Files.{HoldsText}
use Rattle.pc_driver.specs.Objects.{HasObjectFault, Holds}
use Rattle.pc_driver.specs.Streams.{Streamed}
use Rattle.pc_viewer.specs.Viewer.{view_text}
use Rattle.pc_viewer.specs.declared.fault.ViewFault.{ViewFault}
use Rattle.pc_viewer.specs.declared.fault.ViewFault.TheVariants.{NoMemory, ReadObject, Object, WriteOutput}

-- why there is no text
pub data StopsAt (name : List ℕ) (old new : Shelved) : (fault : ViewFault) → Type 0 where
  Without_memory : StopsAt name old new NoMemory
  Without_file : {word : Bor (List ℕ)} → name ≡ word.now → ReadFaultOf old new name → StopsAt name old new (ReadObject word)
  Without_object : {what : ObjectFault} → HoldsText old.held name (λ bytes. HasObjectFault bytes what) → StopsAt name old new (Object what)

-- how a refusal of the loader is reported
abbrev pub fault_of_object : ObjectError → ViewFault
fault_of_object error.BadMagic = Object object.BadMagic
fault_of_object (error.Truncated offset) = Object (object.Truncated offset)
fault_of_object (error.BadField offset flaw) = Object (object.BadField offset flaw)
fault_of_object (error.Trailing offset) = Object (object.Trailing offset)
fault_of_object error.Memory = NoMemory

-- the text that is asked for, of an object that OBJ holds
pub record ShowsObject (request : ViewRequest) (held : Option Files) (text : List ℕ) : Type 0 where
  pub object : CodeWithNotes
  pub in_file : Holds held request.object object
  pub is : text ≡ view_text request.dot object

-- a text was sent, or a part of it before the output failed
pub data SendsAll (text : List ℕ) (out out_now : Streamed) : (due : Option ViewFault) → Type 0 where
  Sent_whole : Appends out.told out_now.told text → SendsAll text out out_now None
  Sent_part : Rose out.faults out_now.faults → AppendsPart out.told out_now.told text → SendsAll text out out_now (Some WriteOutput)
