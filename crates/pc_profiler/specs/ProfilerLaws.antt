-- What follows from the profiler's promise for each status, for each command, object and input.
use Rattle.std.specs.Prelude.{◌≡◌, ℕ, ◌≤◌, ◌⊎◌, ℤ, List, Option, Some, None, IfSome}
use Rattle.std.specs.Io.KnownBytes.{Appends}
use Rattle.std.specs.Option.{IsSomeAnd}
use Rattle.pc_word.specs.Count.{Rose}
use Rattle.pc_object.specs.ObjectText.{CodeWithNotes}
use Rattle.pc_outside.specs.Shelf.{ReadFaultOf}
use Rattle.pc_outside.specs.Stream.{AppendsPart}
use Rattle.pc_command.specs.Requests.{StatRequest}
use Rattle.pc_driver.specs.Files.{HoldsText}
use Rattle.pc_driver.specs.Input.{IsInputOf, IsNoInput, Loaded}
use Rattle.pc_driver.specs.ToldFile.{IsToldFile}
use Rattle.pc_driver.specs.Objects.{IsTextOf, IsNoObject, HoldsObject}
use Rattle.pc_driver.specs.Outside.{Outside, HasErrorFault}
use Rattle.pc_profiler.specs.Cost.{cost_text}
use Rattle.pc_profiler.specs.Profiler.{ProfilerLacks, ProfilerPromise}

-- what the run of an object on numbers cost was sent
abbrev pub SendsCost : Outside → Outside → StatRequest → CodeWithNotes → List ℤ → Type 0
SendsCost old new request object numbers = Appends old.out.told new.out.told (cost_text request object numbers)

-- a proper prefix of it was sent before the output failed
pub record BreaksOff (old new : Outside) (request : StatRequest) (object : CodeWithNotes) (numbers : List ℤ) : Type 0 where
  pub fault : Rose old.out.faults new.out.faults
  pub part : AppendsPart old.out.told new.out.told (cost_text request object numbers)

-- an object that OBJ held was run on the input, and what the run cost was sent
pub record HasProfiled (old new : Outside) (request : StatRequest) : Type 0 where
  pub object : CodeWithNotes
  pub numbers : List ℤ
  pub loaded : Loaded request.object old.shelf.held old.input.told object numbers
  pub sent : SendsCost old new request object numbers

-- an object that OBJ held was run on the input, and the output failed
pub record HasBroken (old new : Outside) (request : StatRequest) : Type 0 where
  pub object : CodeWithNotes
  pub numbers : List ℤ
  pub loaded : Loaded request.object old.shelf.held old.input.told object numbers
  pub breaks_off : BreaksOff old new request object numbers

-- OBJ could not be read, and the input was not touched; or OBJ holds an object that loads, and the input could not be read
abbrev pub FailsToTake : Outside → Outside → StatRequest → Type 0
FailsToTake old new request =
    (ReadFaultOf old.shelf new.shelf request.object × (new.input ≡ old.input))
    ⊎ (HoldsObject old.shelf.held request.object × Rose old.input.faults new.input.faults)

-- OBJ holds no object that loads, and the input was not touched; or it does, and the input is none
abbrev pub RefusesBytes : Outside → Outside → StatRequest → Type 0
RefusesBytes old new request =
    (HoldsText old.shelf.held request.object IsNoObject × (new.input ≡ old.input))
    ⊎ (HoldsObject old.shelf.held request.object × IfSome old.input.told IsNoInput)

-- the shelf tells its files, and OBJ has this text
abbrev pub IsToldObject : Outside → StatRequest → (text : List ℕ) → Type 0
IsToldObject old request text = IsToldFile old.shelf.held request.object text

-- what follows
pub record ProfilerStatuses (given : Option StatRequest) (old new : Outside) (code : ℕ) : Type 0 where
  -- what each status says
  pub profiled : code ≡ 0 → IsSomeAnd given (HasProfiled old new)
  pub lacking : code ≡ 1 → ProfilerLacks old.shelf old.input new.input old.out new.out given
  pub misused : code ≡ 2 → (given ≡ None) × (new.shelf ≡ old.shelf) × (new.input ≡ old.input)
  pub unread : code ≡ 3 → IsSomeAnd given (FailsToTake old new)
  pub refused : code ≡ 4 → IsSomeAnd given (RefusesBytes old new)
  pub failed : code ≡ 5 → IsSomeAnd given (HasBroken old new) ⊎ HasErrorFault old new
  pub known : code ≤ 5
  -- with 2, 3 and 4 nothing was sent to the output
  pub silent : (2 ≤ code) → (code ≤ 4) → new.out ≡ old.out
  -- what is no command is reported so, but for want of memory and a fault of the error output
  pub usage : given ≡ None → (code ≡ 2) ⊎ (code ≡ 1) ⊎ ((code ≡ 5) × HasErrorFault old new)
  -- what the run of an object that loads cost on an input of numbers is sent, but for want of memory and faults
  pub complete : (request : StatRequest) (text left : List ℕ) (object : CodeWithNotes) (numbers : List ℤ) →
      given ≡ Some request → IsToldObject old request text → IsTextOf text object → old.input.told ≡ Some left → IsInputOf left numbers →
      ((code ≡ 0) × SendsCost old new request object numbers)
      ⊎ (code ≡ 1) ⊎ ((code ≡ 3) × FailsToTake old new request) ⊎ ((code ≡ 5) × (BreaksOff old new request object numbers ⊎ HasErrorFault old new))
  -- what is no object is refused
  pub strict_of_object : (request : StatRequest) (text : List ℕ) →
      given ≡ Some request → IsToldObject old request text → IsNoObject text →
      (code ≡ 4) ⊎ (code ≡ 1) ⊎ ((code ≡ 3) × ReadFaultOf old.shelf new.shelf request.object) ⊎ ((code ≡ 5) × HasErrorFault old new)
  -- and so is what is no input
  pub strict_of_input : (request : StatRequest) (text left : List ℕ) (object : CodeWithNotes) →
      given ≡ Some request → IsToldObject old request text → IsTextOf text object → old.input.told ≡ Some left → IsNoInput left →
      (code ≡ 4) ⊎ (code ≡ 1) ⊎ ((code ≡ 3) × FailsToTake old new request) ⊎ ((code ≡ 5) × HasErrorFault old new)

-- the law: the promise says all this
abbrev pub ProfilerPromisesSay : Type 0
ProfilerPromisesSay = (given : Option StatRequest) (old new : Outside) (code : ℕ) → ProfilerPromise given old new code
    → ProfilerStatuses given old new code
