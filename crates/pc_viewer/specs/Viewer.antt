-- What the viewer promises.
use Rattle.std.specs.Prelude.{◌≡◌, ℕ, Bool, if◌then◌else◌, List, Option, Some, None}
use Rattle.std.specs.Borrow.{Bor}
use Rattle.std.specs.Io.KnownBytes.{Appends}
use Rattle.pc_word.specs.Count.{Rose}
use Rattle.pc_object.specs.ObjectText.{CodeWithNotes}
use Rattle.pc_outside.specs.Shelf.{Shelved, ReadFaultOf, ReadKeeps}
use Rattle.pc_outside.specs.Stream.{AppendsPart}
use Rattle.pc_command.specs.Requests.{ViewRequest}
use Rattle.pc_report.specs.declared.fault.ObjectFault.{ObjectFault}
use Rattle.pc_view.specs.Graph.{graph_text}
use Rattle.pc_view.specs.Listing.{listing_text}
use Rattle.pc_driver.specs.Files.{HoldsText}
use Rattle.pc_driver.specs.Objects.{HasObjectFault, Holds}
use Rattle.pc_driver.specs.Streams.{SendsFront, Streamed}
use Rattle.pc_viewer.specs.Outside.{Surroundings}
use Rattle.pc_viewer.specs.Told.{Told}
use Rattle.pc_viewer.specs.declared.fault.ViewFault.{ViewFault}
use Rattle.pc_viewer.specs.declared.fault.ViewFault.TheVariants.{NoMemory, Usage, ReadObject, Object, WriteOutput}

-- the text that is asked for: the graph of the object, or its listing
abbrev pub view_text : Bool → CodeWithNotes → List ℕ
view_text dot object = if dot then graph_text object else listing_text object

-- What stands where memory ran out: nothing was sent; or OBJ holds an object that loads, and the front of its text was sent.
pub data ViewerLacks (old : Shelved) (out out_now : Streamed) : (given : Option ViewRequest) → Type 0 where
  Early : {given : Option ViewRequest} →
      out_now ≡ out →
      ViewerLacks old out out_now given
  Sending : {request : ViewRequest} {object : CodeWithNotes} →
      Holds old.held request.object object →
      SendsFront out out_now (view_text request.dot object) →
      ViewerLacks old out out_now (Some request)

-- How the viewer ends, by what is due: what was given, and what stands outside.
pub data ViewerEnds (old new : Shelved) (out out_now : Streamed) : (given : Option ViewRequest) (due : Option ViewFault) → Type 0 where
  -- the text of the object was sent
  Viewed : {request : ViewRequest} {object : CodeWithNotes} →
      Holds old.held request.object object →
      Appends out.told out_now.told (view_text request.dot object) →
      ViewerEnds old new out out_now (Some request) None
  -- the words are no command
  Misused :
      new ≡ old →
      out_now ≡ out →
      ViewerEnds old new out out_now None (Some Usage)
  -- the shelf had a read fault of OBJ
  Unread : {request : ViewRequest} {name : Bor (List ℕ)} →
      request.object ≡ name.now →
      ReadFaultOf old new name.now →
      out_now ≡ out →
      ViewerEnds old new out out_now (Some request) (Some (ReadObject name))
  -- OBJ has bytes with this fault
  Refused : {request : ViewRequest} {what : ObjectFault} →
      HoldsText old.held request.object (λ bytes. HasObjectFault bytes what) →
      out_now ≡ out →
      ViewerEnds old new out out_now (Some request) (Some (Object what))
  -- a proper prefix of the text was sent before the output failed
  Broke : {request : ViewRequest} {object : CodeWithNotes} →
      Holds old.held request.object object →
      Rose out.faults out_now.faults →
      AppendsPart out.told out_now.told (view_text request.dot object) →
      ViewerEnds old new out out_now (Some request) (Some WriteOutput)
  -- memory ran out
  Lacking : {given : Option ViewRequest} →
      ViewerLacks old out out_now given →
      ViewerEnds old new out out_now given (Some NoMemory)

-- What the viewer promises of the outside before and after it: it came to an end, what was due then is reported, and the shelf's files
-- are as before.
pub record ViewerPromise (given : Option ViewRequest) (old new : Surroundings) (code : ℕ) : Type 0 where
  pub due : Option ViewFault
  pub ends : ViewerEnds old.shelf new.shelf old.out new.out given due
  pub told : Told due old.err new.err code
  pub shelf : ReadKeeps old.shelf new.shelf
