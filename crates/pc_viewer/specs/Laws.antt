-- What follows from the viewer's promise for each status, for each command and object.
use Rattle.std.specs.Prelude.{◌≡◌, ℕ, ◌≤◌, ◌⊎◌, List, Option, Some, None}
use Rattle.std.specs.Io.KnownBytes.{Appends}
use Rattle.std.specs.Option.{IsSomeAnd}
use Rattle.pc_word.specs.Count.{Rose}
use Rattle.pc_object.specs.ObjectText.{CodeWithNotes}
use Rattle.pc_outside.specs.Shelf.{ReadFaultOf}
use Rattle.pc_outside.specs.Stream.{AppendsPart}
use Rattle.pc_command.specs.Requests.{ViewRequest}
use Rattle.pc_driver.specs.Files.{HoldsText}
use Rattle.pc_driver.specs.ToldFile.{IsToldFile}
use Rattle.pc_driver.specs.Objects.{Holds, IsNoObject, IsTextOf}
use Rattle.pc_viewer.specs.Outside.{Surroundings}
use Rattle.pc_viewer.specs.Viewer.{ViewerLacks, ViewerPromise, view_text}

-- the text of an object was sent
abbrev pub SendsText : Surroundings → Surroundings → ViewRequest → CodeWithNotes → Type 0
SendsText old new request object = Appends old.out.told new.out.told (view_text request.dot object)

-- a proper prefix of it was sent before the output failed
pub record BreaksOff (old new : Surroundings) (request : ViewRequest) (object : CodeWithNotes) : Type 0 where
  pub fault : Rose old.out.faults new.out.faults
  pub part : AppendsPart old.out.told new.out.told (view_text request.dot object)

-- the text of an object that OBJ held was sent
pub record HasViewed (old new : Surroundings) (request : ViewRequest) : Type 0 where
  pub object : CodeWithNotes
  pub in_file : Holds old.shelf.held request.object object
  pub sent : SendsText old new request object

-- OBJ held an object, and the output failed on its text
pub record HasBroken (old new : Surroundings) (request : ViewRequest) : Type 0 where
  pub object : CodeWithNotes
  pub in_file : Holds old.shelf.held request.object object
  pub breaks_off : BreaksOff old new request object

-- the shelf had a read fault of OBJ
abbrev pub HasReadFault : Surroundings → Surroundings → ViewRequest → Type 0
HasReadFault old new request = ReadFaultOf old.shelf new.shelf request.object

-- the error output failed
abbrev pub HasErrorFault : Surroundings → Surroundings → Type 0
HasErrorFault old new = Rose old.err.faults new.err.faults

-- the shelf tells its files, and OBJ has this text
abbrev pub IsToldObject : Surroundings → ViewRequest → (text : List ℕ) → Type 0
IsToldObject old request text = IsToldFile old.shelf.held request.object text

-- what follows
pub record ViewerStatuses (given : Option ViewRequest) (old new : Surroundings) (code : ℕ) : Type 0 where
  -- what each status says
  pub viewed : code ≡ 0 → IsSomeAnd given (HasViewed old new)
  pub lacking : code ≡ 1 → ViewerLacks old.shelf old.out new.out given
  pub misused : code ≡ 2 → (given ≡ None) × (new.shelf ≡ old.shelf)
  pub unread : code ≡ 3 → IsSomeAnd given (HasReadFault old new)
  pub refused : code ≡ 4 → IsSomeAnd given (λ request. HoldsText old.shelf.held request.object IsNoObject)
  pub failed : code ≡ 5 → IsSomeAnd given (HasBroken old new) ⊎ HasErrorFault old new
  pub known : code ≤ 5
  -- with 2, 3 and 4 nothing was sent to the output
  pub silent : (2 ≤ code) → (code ≤ 4) → new.out ≡ old.out
  -- what is no command is reported so, but for want of memory and a fault of the error output
  pub usage : given ≡ None → (code ≡ 2) ⊎ (code ≡ 1) ⊎ ((code ≡ 5) × HasErrorFault old new)
  -- the text of an object that loads is sent, but for want of memory and faults
  pub complete : (request : ViewRequest) (text : List ℕ) (object : CodeWithNotes) →
      given ≡ Some request → IsToldObject old request text → IsTextOf text object →
      ((code ≡ 0) × SendsText old new request object)
      ⊎ (code ≡ 1) ⊎ ((code ≡ 3) × HasReadFault old new request) ⊎ ((code ≡ 5) × (BreaksOff old new request object ⊎ HasErrorFault old new))
  -- and what is no object is refused
  pub strict : (request : ViewRequest) (text : List ℕ) →
      given ≡ Some request → IsToldObject old request text → IsNoObject text →
      (code ≡ 4) ⊎ (code ≡ 1) ⊎ ((code ≡ 3) × HasReadFault old new request) ⊎ ((code ≡ 5) × HasErrorFault old new)

-- the law: the promise says all this
abbrev pub ViewerPromisesSay : Type 0
ViewerPromisesSay = (given : Option ViewRequest) (old new : Surroundings) (code : ℕ) → ViewerPromise given old new code
    → ViewerStatuses given old new code
