-- What a machine holds, as lists, and the state that it is.
use Rattle.std.specs.Prelude.{ℕ, ℤ, pos, List, [], slice_index_or}
use Rattle.pc_word.specs.State.{State}

-- the registers, the elements of each array, and the input that is left
pub record Contents : Type 0 where
  pub registers : List ℤ
  pub cells : List (List ℤ)
  pub input : List ℤ

-- a register by its number, and 0 where there is none
abbrev pub names_of : List ℤ → ℕ → ℤ
names_of registers x = slice_index_or registers x (pos 0)

-- an element by its array and place, and 0 where there is none
abbrev pub cells_of : List (List ℤ) → ℕ → ℕ → ℤ
cells_of cells array place = slice_index_or (slice_index_or cells array []) place (pos 0)

-- the state that lists are
abbrev pub state_of : Contents → State
state_of held = record { names = names_of held.registers; cells = cells_of held.cells; input = held.input }
