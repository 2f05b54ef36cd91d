-- How states get registers, one after the other: models of private code.
use Rattle.std.specs.Prelude.{◌≡◌, ℕ, ◌<◌, List, length, take, Option, Some, slice_get}
use Rattle.pc_automaton.specs.Automaton.{AutomatonState}
use Rattle.pc_assign.specs.Pressure.{pressure_of, IsLow, LowBefore, IsFirstAbove}
use Rattle.pc_assign.specs.Assigned.{states_pass, passed_to, StateByRule}
use Rattle.pc_assign.specs.Stored.{beside, register_in}
use Rattle.pc_assign.specs.declared.error.AssignError.{AssignError}
use Rattle.pc_assign.specs.declared.error.AssignError.TheVariants.{Pressure, Memory}
use Rattle.pc_assign.specs.declared.assigned.StateRegisters.{StateRegisters}
use Rattle.pc_assign.specs.models.Choosing.{AreMost, PassedMost}
use Rattle.pc_assign.specs.models.Passing.{noted}

-- a state has registers
pub record IsGiven (scratch number : ℕ) (passed : List (Option ℕ)) (state : AutomatonState) (given : StateRegisters) : Type 0 where
  pub low : IsLow scratch state
  pub rule : StateByRule scratch number passed (beside given.names.keys given.registers) state
  pub most : AreMost scratch given.registers

-- or is refused
abbrev pub RefusesState : ℕ → ℕ → AutomatonState → AssignError → Type 0
RefusesState scratch number state (Pressure at live) = (at ≡ number) × (live ≡ pressure_of state) × (scratch < live)
RefusesState scratch number state Memory = Unit {0}

-- states are refused, of which one needs more registers than stand below scratch
abbrev pub RefusesStates : ℕ → List AutomatonState → AssignError → Type 0
RefusesStates scratch states (Pressure number live) = IsFirstAbove scratch states number live
RefusesStates scratch states Memory = Unit {0}

-- the registers of all names, where these states have them
abbrev pub registers_of : List StateRegisters → ℕ → ℕ → Option ℕ
registers_of given number = register_in (slice_get given number)

-- a list begins with another
abbrev pub BeginsWith : List StateRegisters → List StateRegisters → Type 0
BeginsWith front whole = (at : ℕ) (it : StateRegisters) → slice_get front at ≡ Some it → slice_get whole at ≡ Some it

-- so many states have registers, and what they pass is noted; said of every later list of these
pub record AreGiven (scratch : ℕ) (states : List AutomatonState) (number : ℕ) (given : List StateRegisters) (table : List (Option (List (Option ℕ)))) : Type 0 where
  pub count : length given ≡ number
  pub low : LowBefore scratch states number
  pub as_many : length table ≡ length states
  pub rule : (whole : List StateRegisters) → BeginsWith given whole → (at : ℕ) (state : AutomatonState) → at < number
      → slice_get states at ≡ Some state
      → StateByRule scratch at (passed_to states (registers_of whole) at) (registers_of whole at) state
  pub notes : (whole : List StateRegisters) → BeginsWith given whole → (to : ℕ) → to < length states
      → noted table to ≡ states_pass (registers_of whole) to 0 (take number states)
  pub most : (to : ℕ) (passed : List (Option ℕ)) → noted table to ≡ Some passed → PassedMost scratch passed
