-- How many names of a state are live together at most.
use Rattle.std.specs.Prelude.{◌≡◌, ℕ, suc, ◌+◌, ◌-◌, ◌<◌, ◌≤◌, max, List, length, Option, Some, None, slice_get, count_by}
use Rattle.pc_word.specs.Row.{Row, Then, Either, At_leaf}
use Rattle.pc_word.specs.Items.{dest_of}
use Rattle.pc_automaton.specs.declared.automaton.AutomatonLeaf.{AutomatonLeaf}
use Rattle.pc_automaton.specs.Automaton.{AutomatonState}
use Rattle.pc_machine.specs.Registers.{few_registers, most_registers}
use Rattle.pc_assign.specs.Uses.{row_uses}

-- the register that is left for moves: the last of the few registers, or of the most. Names have registers below it.
abbrev pub few_scratch : ℕ
few_scratch = few_registers - 1

abbrev pub most_scratch : ℕ
most_scratch = most_registers - 1

-- one name more, if one is defined
abbrev pub definitions_with : Option ℕ → ℕ → ℕ
definitions_with (Some dest) count = suc count
definitions_with None count = count

-- the pressure of an item below `above` definitions: what its path defines down to it, and the parameters that are used below it
abbrev pub item_pressure : List ℕ → ℕ → Row AutomatonLeaf → Option ℕ → ℕ
item_pressure parameters above rest (Some dest) = suc above + count_by (row_uses rest) parameters
item_pressure parameters above rest None = 0

-- the greatest pressure of a row's items
abbrev pub row_pressure : List ℕ → ℕ → Row AutomatonLeaf → ℕ
row_pressure parameters above (Then item rest) =
    max (item_pressure parameters above rest (dest_of item)) (row_pressure parameters (definitions_with (dest_of item) above) rest)
row_pressure parameters above (Either on on_yes on_no) = max (row_pressure parameters above on_yes) (row_pressure parameters above on_no)
row_pressure parameters above (At_leaf leaf) = 0

-- the pressure of a state: the number of its parameters, or the greatest of its items' if that is more
abbrev pub pressure_of : AutomatonState → ℕ
pressure_of state = max (length state.parameters) (row_pressure state.parameters 0 state.row)

-- a state that has registers for its names, where so many stand below the one that is left for moves
abbrev pub IsLow : ℕ → AutomatonState → Type 0
IsLow scratch state = pressure_of state ≤ scratch

-- each of the states before a number is such a state
abbrev pub LowBefore : ℕ → List AutomatonState → ℕ → Type 0
LowBefore scratch states number = (at : ℕ) (state : AutomatonState) → at < number → slice_get states at ≡ Some state → IsLow scratch state

-- the first state that is not, and its pressure
pub record IsFirstAbove (scratch : ℕ) (states : List AutomatonState) (number live : ℕ) : Type 0 where
  pub state : AutomatonState
  pub there : slice_get states number ≡ Some state
  pub is_live : live ≡ pressure_of state
  pub high : scratch < live
  pub before : LowBefore scratch states number

-- the first state that has too high a pressure for any machine, and that
abbrev pub IsFirstHigh : List AutomatonState → ℕ → ℕ → Type 0
IsFirstHigh = IsFirstAbove most_scratch

-- The register that is left for moves: the last of the few registers where no state has a higher pressure, and else the last
-- of the most.
pub data IsScratch (states : List AutomatonState) (scratch : ℕ) : Type 0 where
  Last_of_few : scratch ≡ few_scratch → LowBefore few_scratch states (length states) → IsScratch states scratch
  Last_of_most : {number live : ℕ} → scratch ≡ most_scratch → IsFirstAbove few_scratch states number live → IsScratch states scratch
