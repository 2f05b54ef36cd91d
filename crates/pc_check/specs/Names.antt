-- The names that are declared where a place of a program is reached, and what each stands for.
use Rattle.std.specs.Prelude.{ℕ, ℤ, ◌+◌, Bool, Option, None, List, [], ◌∷◌, ◌++◌, nat_eq, is_some, length}
use Rattle.std.specs.Option.{option_or}
use Rattle.std.specs.Map.{lookup}
use Rattle.pc_check.specs.declared.slot.Slot.{Slot}
use Rattle.pc_check.specs.declared.slot.Slot.TheVariants as slot

-- what one scope declares: each name with the slot that it stands for
abbrev pub Scope : Type 0
Scope = List (ℕ × Slot)

-- what is declared where a place of a program is reached
pub record Names : Type 0 where
  -- what the innermost scope declares
  pub innermost : Scope
  -- the scopes round it, from the innermost outwards
  pub outer : List Scope
  -- how many scalars were declared so far, in any scope
  pub scalars : ℕ
  -- the lengths of the arrays that were declared so far, in any scope
  pub lengths : List ℕ
  -- the data with which each of these arrays begins
  pub initial : List (List ℤ)

-- in the block of `main`, before the first declaration
abbrev pub no_names : Names
no_names = record { innermost = []; outer = []; scalars = 0; lengths = []; initial = [] }

-- what a scope declares a name as
abbrev pub declared_in : Scope → ℕ → Option Slot
declared_in scope symbol = lookup (nat_eq symbol) scope

-- what a name stands for in these scopes: its declaration in the first that has one
abbrev pub found_in : List Scope → ℕ → Option Slot
found_in [] symbol = None
found_in (scope ∷ outer) symbol = option_or (declared_in scope symbol) (found_in outer symbol)

-- what a name stands for: its declaration in the innermost scope that has one
abbrev pub found : Names → ℕ → Option Slot
found names symbol = found_in (names.innermost ∷ names.outer) symbol

-- whether the innermost scope declares a name
abbrev pub is_declared_here : Names → ℕ → Bool
is_declared_here names symbol = is_some (declared_in names.innermost symbol)

-- inside a new scope
abbrev pub entered : Names → Names
entered names = record names { innermost = []; outer = names.innermost ∷ names.outer }

-- after a scope: no name of it is left, and no slot of it is used again
abbrev pub left : Names → Names → Names
left before inside = record inside { innermost = before.innermost; outer = before.outer }

-- with one more scalar in the innermost scope
abbrev pub with_scalar : Names → ℕ → Names
with_scalar names symbol = record names {
  innermost = names.innermost ++ (symbol, slot.Scalar names.scalars) ∷ [];
  scalars = names.scalars + 1;
}

-- with one more array in the innermost scope, of so many elements, which begins with these words
abbrev pub with_array : Names → ℕ → ℕ → List ℤ → Names
with_array names symbol size words = record names {
  innermost = names.innermost ++ (symbol, slot.Array (length names.lengths)) ∷ [];
  lengths = names.lengths ++ size ∷ [];
  initial = names.initial ++ words ∷ [];
}
