-- How the viewer ends, put together from what its steps leave.
use Rattle.std.proofs.Common.{◌≡◌, ℕ, ◌<◌, ◌≤◌, ◌⊎◌, inl, inr, List, length, Option, Some, None, refl, sym, subst}
use Rattle.std.specs.Prelude.{IsSome, Err}
use Rattle.std.specs.Borrow.{Bor}
use Rattle.std.specs.Io.KnownBytes.{Appends}
use Rattle.pc_word.specs.Count.{Rose}
use Rattle.pc_word.specs.Exact.{IsRefusal}
use Rattle.pc_word.specs.MachineLimits.{most_object}
use Rattle.pc_object.specs.Cause.{object_cause}
use Rattle.pc_object.specs.Reading.{object_reading}
use Rattle.pc_object.specs.declared.refusal.ObjectError.{ObjectError}
use Rattle.pc_object.specs.declared.refusal.ObjectError.TheVariants as error
use Rattle.pc_outside.specs.Shelf.{Shelved, ReadFaultOf, ReadKeeps}
use Rattle.pc_outside.specs.Stream.{AppendsPart}
use Rattle.pc_command.specs.Requests.{ViewRequest}
use Rattle.pc_report.specs.declared.fault.ObjectFault.{ObjectFault}
use Rattle.pc_report.specs.declared.fault.ObjectFault.TheVariants as object
use Rattle.pc_driver.specs.Files.{HasText, HoldsText}
use Rattle.pc_driver.specs.Objects.{HasObjectFault, Long_object, Unread_object, told_of_object}
use Rattle.pc_driver.specs.Streams.{Streamed}
use Rattle.pc_driver.proofs.Files.{holds, held_map}
use Rattle.pc_driver.proofs.Streams.{sends_all, sends_part}
use Rattle.pc_viewer.specs.Outside.{Surroundings}
use Rattle.pc_viewer.specs.Told.{Told}
use Rattle.pc_viewer.specs.Viewer.{ViewerEnds, Viewed, Misused, Unread, Refused, Broke, Lacking, ViewerLacks, Early, Sending, ViewerPromise}
use Rattle.pc_viewer.specs.Viewer.{view_text}
use Rattle.pc_viewer.specs.declared.fault.ViewFault.{ViewFault}
use Rattle.pc_viewer.specs.declared.fault.ViewFault.TheVariants.{NoMemory, Usage, ReadObject, Object, WriteOutput}
use Rattle.pc_viewer.specs.models.Steps.{StopsAt, Without_memory, Without_file, Without_object, fault_of_object, ShowsObject, SendsAll, Sent_whole}
use Rattle.pc_viewer.specs.models.Steps.{Sent_part}

-- ---- the file

-- a file was not read
pub no_memory_stops : (name : List ℕ) (old new : Shelved) → StopsAt name old new NoMemory
no_memory_stops name old new = Without_memory

pub no_file_stops : (name : Bor (List ℕ)) (old new : Shelved) → ReadFaultOf old new name.now → StopsAt name.now old new (ReadObject name)
no_file_stops name old new failed = Without_file refl failed

-- a file has too many bytes
pub long_stops : (name : List ℕ) (old new : Shelved) → HoldsText old.held name (λ text. most_object < length text)
    → StopsAt name old new (Object object.TooLong)
long_stops name old new big = Without_object
    (held_map old.held name (λ text. most_object < length text) (λ text. HasObjectFault text object.TooLong) (λ text long. Long_object long) big)

pub ruleset reads_due = (no_memory_stops, no_file_stops, long_stops)

-- a file was read, and is no object
module _ (name : List ℕ) (old new : Shelved) (bytes : List ℕ) (has : HasText old.held name bytes) (few : length bytes ≤ most_object) where
  flawed : (why : ObjectError) (what : ObjectFault) → object_reading bytes ≡ Err why → told_of_object why ≡ Some what
      → StopsAt name old new (Object what)
  flawed why what first is = Without_object (holds old.held name bytes (λ bytes. HasObjectFault bytes what) has (Unread_object few first is))

  pub object_stops : (why : ObjectError) → IsRefusal (object_cause why) (object_reading bytes) → StopsAt name old new (fault_of_object why)
  object_stops error.BadMagic first = flawed error.BadMagic object.BadMagic first refl
  object_stops (error.Truncated offset) first = flawed (error.Truncated offset) (object.Truncated offset) first refl
  object_stops (error.BadField offset flaw) first = flawed (error.BadField offset flaw) (object.BadField offset flaw) first refl
  object_stops (error.Trailing offset) first = flawed (error.Trailing offset) (object.Trailing offset) first refl
  object_stops error.Memory first = Without_memory

-- ---- the output

pub sent_whole : (text : List ℕ) (old new : Streamed) → Appends old.told new.told text → SendsAll text old new None
sent_whole text old new sent = Sent_whole sent

pub sent_part : (text : List ℕ) (old new : Streamed) → Rose old.faults new.faults → AppendsPart old.told new.told text
    → SendsAll text old new (Some WriteOutput)
sent_part text old new rose part = Sent_part rose part

pub ruleset sends_due = (sent_whole, sent_part)

-- ---- each step

-- nothing was touched, for want of memory
pub no_memory_ends : (given : Option ViewRequest) (old : Shelved) (out : Streamed) → ViewerEnds old old out out given (Some NoMemory)
no_memory_ends given old out = Lacking (Early refl)

-- the words are no command
pub no_command_ends : (given : Option ViewRequest) (old : Shelved) (out : Streamed) → given ≡ None → ViewerEnds old old out out given (Some Usage)
no_command_ends given old out none = subst (λ (g : Option ViewRequest). ViewerEnds old old out out g (Some Usage)) (sym none) (Misused refl refl)

module _ (request : ViewRequest) (old new : Shelved) (out out_now : Streamed) where
  -- there is no text
  stops : (fault : ViewFault) → StopsAt request.object old new fault → ViewerEnds old new out out (Some request) (Some fault)
  stops fault Without_memory = Lacking (Early refl)
  stops fault (Without_file {word} is failed) = Unread is (subst (λ name. ReadFaultOf old new name) is failed) refl
  stops fault (Without_object faulty) = Refused faulty refl

  pub stop_ends : (fault : ViewFault) → StopsAt request.object old new fault → out_now ≡ out
      → ViewerEnds old new out out_now (Some request) (Some fault)
  stop_ends fault stopped same = subst (λ (now : Streamed). ViewerEnds old new out now (Some request) (Some fault)) (sym same) (stops fault stopped)

  -- there is one
  pub text_ends : (text : List ℕ) (due : Option ViewFault) → ShowsObject request old.held text → SendsAll text out out_now due
      → ViewerEnds old new out out_now (Some request) due
  text_ends text due shows (Sent_whole sent) = Viewed shows.in_file (subst (λ t. Appends out.told out_now.told t) shows.is sent)
  text_ends text due shows (Sent_part rose part) = Broke shows.in_file rose (subst (λ t. AppendsPart out.told out_now.told t) shows.is part)

-- ---- no memory for a line

-- where something is due, what stands is what may stand where memory ran out
ends_lacking : (given : Option ViewRequest) (old new : Shelved) (out out_now : Streamed) (due : Option ViewFault)
    → ViewerEnds old new out out_now given due
    → ViewerLacks old out out_now given
ends_lacking given old new out out_now due (Viewed {request} {object} held sent) = Sending held
    (sends_all out out_now (view_text request.dot object) sent)
ends_lacking given old new out out_now due (Misused same silent) = Early silent
ends_lacking given old new out out_now due (Unread is failed silent) = Early silent
ends_lacking given old new out out_now due (Refused faulty silent) = Early silent
ends_lacking given old new out out_now due (Broke {request} {object} held rose part) = Sending held
    (sends_part out out_now (view_text request.dot object) part)
ends_lacking given old new out out_now due (Lacking lacks) = lacks

-- what the viewer came to is what it promises, once it is reported
pub viewer_promise : (given : Option ViewRequest) (old new : Surroundings) (due : Option ViewFault) (code : ℕ)
    → ViewerEnds old.shelf new.shelf old.out new.out given due → ReadKeeps old.shelf new.shelf
    → Told due old.err new.err code ⊎ (IsSome due × Told (Some NoMemory) old.err new.err code) → ViewerPromise given old new code
viewer_promise given old new due code ends shelf (inl told) = record { due = due; ends = ends; told = told; shelf = shelf }
viewer_promise given old new due code ends shelf (inr told) = record {
  due = Some NoMemory;
  ends = Lacking (ends_lacking given old.shelf new.shelf old.out new.out due ends);
  told = told.1;
  shelf = shelf;
}

pub ruleset viewer_endings = (no_memory_ends, no_command_ends, stop_ends, text_ends)
