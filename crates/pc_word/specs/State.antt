-- The state that items work on, whatever runs them: a flow graph, a region, a window or a machine.
use Rattle.std.specs.Prelude.{ℕ, ℤ, pos, List, if◌then◌else◌, ◌&&◌, nat_eq}
use Rattle.pc_word.specs.Data.{first_cells}

-- the value of each name, the elements of each array by number and index, and the input that is left
pub record State : Type 0 where
  pub names : ℕ → ℤ
  pub cells : ℕ → ℕ → ℤ
  pub input : List ℤ

-- all names are 0, each array begins with its data and goes on with 0, and the whole input is left
abbrev pub start_state : List (List ℤ) → List ℤ → State
start_state initial input = record { names = λ name. pos 0; cells = first_cells initial; input = input }

-- the state with another value in one name
abbrev pub set_name : ℕ → ℤ → State → State
set_name name value s = record s { names = λ x. if nat_eq name x then value else s.names x }

-- the state with another value in one element
abbrev pub set_cell : ℕ → ℕ → ℤ → State → State
set_cell array place value s =
    record s { cells = λ a i. if nat_eq array a && nat_eq place i then value else s.cells a i }

-- the state in which this input is left
abbrev pub set_input : List ℤ → State → State
set_input rest s = record s { input = rest }
