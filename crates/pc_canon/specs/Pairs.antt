-- Names of two rows or windows that correspond to each other, and what is alike where they do.
use Rattle.std.specs.Prelude.{◌≡◌, ℕ, Bool, true, false, not, ◌&&◌, if◌then◌else◌, nat_eq, List, [], ◌∷◌, map, Option, Some}
use Rattle.pc_word.specs.declared.item.Operand.{Operand}
use Rattle.pc_word.specs.declared.item.Operand.TheVariants.{Name, Lit}
use Rattle.pc_word.specs.State.{State}
use Rattle.pc_window.specs.declared.home.Home.{Home}

-- a name, and the name that corresponds to it on the other side
pub record Pair : Type 0 where
  pub one : ℕ
  pub other : ℕ

-- whether two names correspond: the first pair that has one of them has both
abbrev pub corresponds : List Pair → ℕ → ℕ → Bool
corresponds [] x y = false
corresponds (pair ∷ pairs) x y = if nat_eq pair.one x then nat_eq pair.other y else (not (nat_eq pair.other y) && corresponds pairs x y)

-- the names of the one side
abbrev pub ones : List Pair → List ℕ
ones [] = []
ones (pair ∷ pairs) = pair.one ∷ ones pairs

-- the names of the other side
abbrev pub others : List Pair → List ℕ
others [] = []
others (pair ∷ pairs) = pair.other ∷ others pairs

-- names that correspond to themselves
abbrev pub themselves : List ℕ → List Pair
themselves [] = []
themselves (x ∷ xs) = (record { one = x; other = x }) ∷ themselves xs

-- the names that two items write correspond from there on
abbrev pub defined : List Pair → Option ℕ → Option ℕ → List Pair
defined names (Some x) (Some y) = (record { one = x; other = y }) ∷ names
defined names _ _ = names

-- names as operands
abbrev pub operands_for : List ℕ → List Operand
operands_for names = map (λ (x : ℕ). Name x) names

-- ---- alike

-- equal literals, or corresponding names
abbrev pub OperandsAlike : List Pair → Operand → Operand → Type 0
OperandsAlike names (Name x) (Name y) = corresponds names x y ≡ true
OperandsAlike names (Lit a) (Lit b) = a ≡ b
OperandsAlike names _ _ = ⊥

-- as many arguments, each alike
abbrev pub ArgumentsAlike : List Pair → List Operand → List Operand → Type 0
ArgumentsAlike names [] [] = Unit {0}
ArgumentsAlike names (a ∷ arguments) (b ∷ others) = OperandsAlike names a b × ArgumentsAlike names arguments others
ArgumentsAlike names _ _ = ⊥

-- the same variables in the same order, with operands that are alike
abbrev pub HomesAlike : List Pair → List Home → List Home → Type 0
HomesAlike names [] [] = Unit {0}
HomesAlike names (home ∷ homes) (other ∷ others) =
    (home.variable ≡ other.variable) × OperandsAlike names home.value other.value × HomesAlike names homes others
HomesAlike names _ _ = ⊥

-- in two states all is the same, but for names, which have the values of those that they correspond to
pub record Correspond (names : List Pair) (s t : State) : Type 0 where
  pub same_names : (x y : ℕ) → corresponds names x y ≡ true → s.names x ≡ t.names y
  pub same_cells : s.cells ≡ t.cells
  pub same_input : s.input ≡ t.input
