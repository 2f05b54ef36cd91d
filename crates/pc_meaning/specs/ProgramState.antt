-- What a source program works on: its scalars, its arrays, the input, what it has printed, and how many
-- turns of loops it may still start.
use Rattle.std.specs.Prelude.{ℕ, ℤ, pos, List, [], ◌∷◌, ◌++◌, if◌then◌else◌, ◌&&◌, nat_eq}
use Rattle.pc_word.specs.Data.{first_cells}

-- the state of a program
pub record ProgramState : Type 0 where
  -- the value of each scalar, by its number
  pub scalars : ℕ → ℤ
  -- the value of each element, by the number of its array and its place there
  pub cells : ℕ → ℕ → ℤ
  -- the numbers of the input that are left
  pub input : List ℤ
  -- the numbers printed so far
  pub printed : List ℤ
  -- how many turns of loops may still be started
  pub turns : ℕ

-- Where a program starts: all scalars are 0, and each array begins with its data and goes on with 0 (C17 6.2.4 and 6.7.9 have
-- that for objects of static storage only). This is all that initialises an array: no declaration that is reached later
-- sets its elements again.
abbrev pub source_start : List (List ℤ) → List ℤ → ℕ → ProgramState
source_start initial input turns =
    record { scalars = λ x. pos 0; cells = first_cells initial; input = input; printed = []; turns = turns }

-- the state with another value in one scalar
abbrev pub set_scalar : ℕ → ℤ → ProgramState → ProgramState
set_scalar scalar value s = record s { scalars = λ x. if nat_eq scalar x then value else s.scalars x }

-- the state with another value in one element
abbrev pub set_element : ℕ → ℕ → ℤ → ProgramState → ProgramState
set_element array place value s =
    record s { cells = λ a i. if nat_eq array a && nat_eq place i then value else s.cells a i }

-- the state in which the rest of the input is left
abbrev pub set_left : List ℤ → ProgramState → ProgramState
set_left rest s = record s { input = rest }

-- the state in which one number more was printed
abbrev pub add_printed : ℤ → ProgramState → ProgramState
add_printed value s = record s { printed = s.printed ++ value ∷ [] }

-- the state in which so many turns are left
abbrev pub set_turns : ℕ → ProgramState → ProgramState
set_turns turns s = record s { turns = turns }
