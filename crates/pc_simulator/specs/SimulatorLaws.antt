-- What follows from the simulator's promise for each status, for each command, object and input.
use Rattle.std.specs.Prelude.{◌≡◌, ℕ, ◌≤◌, ◌⊎◌, ℤ, List, Option, Some, None, IfSome}
use Rattle.std.specs.Io.KnownBytes.{Appends}
use Rattle.std.specs.Option.{IsSomeAnd}
use Rattle.pc_word.specs.declared.item.End.{End}
use Rattle.pc_word.specs.declared.item.End.TheVariants.{Ended, Fault, Trapped}
use Rattle.pc_word.specs.Count.{Rose}
use Rattle.pc_word.specs.NumberText.{text_of}
use Rattle.pc_object.specs.ObjectText.{CodeWithNotes}
use Rattle.pc_outside.specs.Shelf.{ReadFaultOf}
use Rattle.pc_outside.specs.Stream.{AppendsPart}
use Rattle.pc_command.specs.Requests.{SimulateRequest}
use Rattle.pc_driver.specs.Due.{trap_status}
use Rattle.pc_driver.specs.Files.{HoldsText}
use Rattle.pc_driver.specs.ToldFile.{IsToldFile}
use Rattle.pc_driver.specs.Objects.{IsTextOf, IsNoObject, HoldsObject}
use Rattle.pc_driver.specs.Outside.{Outside, HasErrorFault}
use Rattle.pc_driver.specs.Input.{IsInputOf, IsNoInput, Loaded}
use Rattle.pc_simulator.specs.Simulation.{run_seen}
use Rattle.pc_simulator.specs.Simulator.{SimulatorLacks, SimulatorPromise}

-- the status of a run's end; a run whose cycles are spent goes on
abbrev pub end_status : Option End → ℕ
end_status (Some Ended) = 0
end_status None = 6
end_status (Some (Fault fault)) = 7
end_status (Some (Trapped kind line)) = trap_status kind

-- the status is the end of some run: 0, 6, 7, 10, 11 or 12
abbrev pub IsEndStatus : ℕ → Type 0
IsEndStatus code = (end : Option End) × (code ≡ end_status end)

-- what the run of an object on numbers printed was sent
abbrev pub SendsRun : Outside → Outside → SimulateRequest → CodeWithNotes → List ℤ → Type 0
SendsRun old new request object numbers = Appends old.out.told new.out.told (text_of (run_seen request object numbers).printed)

-- a proper prefix of what it prints was sent before the output failed
pub record BreaksOff (old new : Outside) (request : SimulateRequest) (object : CodeWithNotes) (numbers : List ℤ) : Type 0 where
  pub fault : Rose old.out.faults new.out.faults
  pub part : AppendsPart old.out.told new.out.told (text_of (run_seen request object numbers).printed)

-- an object that OBJ held was run on the input, what it printed was sent, and the status is its end
pub record HasRun (old new : Outside) (code : ℕ) (request : SimulateRequest) : Type 0 where
  pub object : CodeWithNotes
  pub numbers : List ℤ
  pub loaded : Loaded request.object old.shelf.held old.input.told object numbers
  pub sent : SendsRun old new request object numbers
  pub ended : code ≡ end_status (run_seen request object numbers).end

-- an object that OBJ held was run on the input, and the output failed
pub record HasBroken (old new : Outside) (request : SimulateRequest) : Type 0 where
  pub object : CodeWithNotes
  pub numbers : List ℤ
  pub loaded : Loaded request.object old.shelf.held old.input.told object numbers
  pub breaks_off : BreaksOff old new request object numbers

-- OBJ could not be read, and the input was not touched; or OBJ holds an object that loads, and the input could not be read
abbrev pub FailsToTake : Outside → Outside → SimulateRequest → Type 0
FailsToTake old new request =
    (ReadFaultOf old.shelf new.shelf request.object × (new.input ≡ old.input))
    ⊎ (HoldsObject old.shelf.held request.object × Rose old.input.faults new.input.faults)

-- OBJ holds no object that loads, and the input was not touched; or it does, and the input is none
abbrev pub RefusesBytes : Outside → Outside → SimulateRequest → Type 0
RefusesBytes old new request =
    (HoldsText old.shelf.held request.object IsNoObject × (new.input ≡ old.input))
    ⊎ (HoldsObject old.shelf.held request.object × IfSome old.input.told IsNoInput)

-- the shelf tells its files, and OBJ has this text
abbrev pub IsToldObject : Outside → SimulateRequest → (text : List ℕ) → Type 0
IsToldObject old request text = IsToldFile old.shelf.held request.object text

-- what follows
pub record SimulatorStatuses (given : Option SimulateRequest) (old new : Outside) (code : ℕ) : Type 0 where
  -- what each status says
  pub ran : IsEndStatus code → IsSomeAnd given (HasRun old new code)
  pub lacking : code ≡ 1 → SimulatorLacks old.shelf new.shelf old.input new.input old.out new.out given
  pub misused : code ≡ 2 → (given ≡ None) × (new.shelf ≡ old.shelf) × (new.input ≡ old.input)
  pub unread : code ≡ 3 → IsSomeAnd given (FailsToTake old new)
  pub refused : code ≡ 4 → IsSomeAnd given (RefusesBytes old new)
  pub failed : code ≡ 5 → IsSomeAnd given (HasBroken old new) ⊎ HasErrorFault old new
  pub known : (code ≤ 5) ⊎ IsEndStatus code
  -- with 2, 3 and 4 nothing was sent to the output
  pub silent : (2 ≤ code) → (code ≤ 4) → new.out ≡ old.out
  -- what is no command is reported so, but for want of memory and a fault of the error output
  pub usage : given ≡ None → (code ≡ 2) ⊎ (code ≡ 1) ⊎ ((code ≡ 5) × HasErrorFault old new)
  -- an object that loads is run on an input of numbers, but for want of memory and faults
  pub complete : (request : SimulateRequest) (text left : List ℕ) (object : CodeWithNotes) (numbers : List ℤ) →
      given ≡ Some request → IsToldObject old request text → IsTextOf text object → old.input.told ≡ Some left → IsInputOf left numbers →
      ((code ≡ end_status (run_seen request object numbers).end) × SendsRun old new request object numbers)
      ⊎ (code ≡ 1) ⊎ ((code ≡ 3) × FailsToTake old new request) ⊎ ((code ≡ 5) × (BreaksOff old new request object numbers ⊎ HasErrorFault old new))
  -- what is no object is refused
  pub strict_of_object : (request : SimulateRequest) (text : List ℕ) →
      given ≡ Some request → IsToldObject old request text → IsNoObject text →
      (code ≡ 4) ⊎ (code ≡ 1) ⊎ ((code ≡ 3) × ReadFaultOf old.shelf new.shelf request.object) ⊎ ((code ≡ 5) × HasErrorFault old new)
  -- and so is what is no input
  pub strict_of_input : (request : SimulateRequest) (text left : List ℕ) (object : CodeWithNotes) →
      given ≡ Some request → IsToldObject old request text → IsTextOf text object → old.input.told ≡ Some left → IsNoInput left →
      (code ≡ 4) ⊎ (code ≡ 1) ⊎ ((code ≡ 3) × FailsToTake old new request) ⊎ ((code ≡ 5) × HasErrorFault old new)

-- the law: the promise says all this
abbrev pub SimulatorPromisesSay : Type 0
SimulatorPromisesSay = (given : Option SimulateRequest) (old new : Outside) (code : ℕ) → SimulatorPromise given old new code → SimulatorStatuses given old new code
