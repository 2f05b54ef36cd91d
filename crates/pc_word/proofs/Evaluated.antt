-- What one item does by itself depends on the values of its operands alone, and not on names.
use Rattle.std.proofs.Common.{◌≡◌, ℕ, List, [], ◌∷◌, refl, sym, ◌∙◌}
use Rattle.std.specs.Prelude.{ℤ, pos, true, ◌||◌}
use Rattle.pc_word.specs.declared.item.Item.{Item}
use Rattle.pc_word.specs.declared.item.Item.TheVariants.{Bin, Copy, Load, Store, Print, Read, More}
use Rattle.pc_word.specs.declared.item.Operand.{Operand}
use Rattle.pc_word.specs.declared.item.Operand.TheVariants.{Name, Lit}
use Rattle.pc_word.specs.State.{State}
use Rattle.pc_word.specs.Items.{operand_value, value_of, reads, reads_name}
use Rattle.pc_word.specs.Commit.{prints_of, fault_of, state_after}
use Rattle.pc_word.proofs.Truth.{or_first, or_second}
use Rattle.pc_word.proofs.Places.{own_number}

-- an item with the values of its operands in their place, and no name
abbrev pub evaluated : (ℕ → ℤ) → Item → Item
evaluated names (Bin op dest left right) = Bin op 0 (Lit (operand_value names left)) (Lit (operand_value names right))
evaluated names (Copy dest from) = Copy 0 (Lit (operand_value names from))
evaluated names (Load dest array index) = Load 0 array (Lit (operand_value names index))
evaluated names (Store array index value) = Store array (Lit (operand_value names index)) (Lit (operand_value names value))
evaluated names (Print value) = Print (Lit (operand_value names value))
evaluated names (Read dest) = Read 0
evaluated names (More dest) = More 0

-- a state without names
abbrev pub bare : State → State
bare s = record { names = λ x. pos 0; cells = s.cells; input = s.input }

-- two items in two states do the same, but for the names that they write
pub record Alike (s : State) (i : Item) (t : State) (j : Item) : Type 0 where
  pub items : evaluated s.names i ≡ evaluated t.names j
  pub states : bare s ≡ bare t

-- an item does what it does with its operands' values in their place, in a state without names
fault_bare : (lengths : List ℕ) (s : State) (i : Item) → fault_of lengths s (i ∷ []) ≡ fault_of lengths (bare s) (evaluated s.names i ∷ [])
fault_bare lengths s (Bin op dest left right) = refl
fault_bare lengths s (Copy dest from) = refl
fault_bare lengths s (Load dest array index) = refl
fault_bare lengths s (Store array index value) = refl
fault_bare lengths s (Print value) = refl
fault_bare lengths s (Read dest) = refl
fault_bare lengths s (More dest) = refl

prints_bare : (s : State) (i : Item) → prints_of s (i ∷ []) ≡ prints_of (bare s) (evaluated s.names i ∷ [])
prints_bare s (Bin op dest left right) = refl
prints_bare s (Copy dest from) = refl
prints_bare s (Load dest array index) = refl
prints_bare s (Store array index value) = refl
prints_bare s (Print value) = refl
prints_bare s (Read dest) = refl
prints_bare s (More dest) = refl

value_bare : (lengths : List ℕ) (s : State) (i : Item) → value_of lengths s i ≡ value_of lengths (bare s) (evaluated s.names i)
value_bare lengths s (Bin op dest left right) = refl
value_bare lengths s (Copy dest from) = refl
value_bare lengths s (Load dest array index) = refl
value_bare lengths s (Store array index value) = refl
value_bare lengths s (Print value) = refl
value_bare lengths s (Read dest) = refl
value_bare lengths s (More dest) = refl

after_bare : (lengths : List ℕ) (s : State) (i : Item) → bare (state_after lengths s (i ∷ [])) ≡ bare (state_after lengths (bare s) (evaluated s.names i ∷ []))
after_bare lengths s (Bin op dest left right) = refl
after_bare lengths s (Copy dest from) = refl
after_bare lengths s (Load dest array index) = refl
after_bare lengths s (Store array index value) = refl
after_bare lengths s (Print value) = refl
after_bare lengths s (Read dest) = refl
after_bare lengths s (More dest) = refl

-- such items fault alike, print the same, have the same value and leave the same arrays and input
pub Alike-fault : (lengths : List ℕ) (s : State) (i : Item) (t : State) (j : Item) → Alike s i t j → fault_of lengths s (i ∷ []) ≡ fault_of lengths t (j ∷ [])
Alike-fault lengths s i t j a = fault_bare lengths s i ∙ (λ d. fault_of lengths (a.states d) (a.items d ∷ [])) ∙ sym (fault_bare lengths t j)

pub Alike-prints : (s : State) (i : Item) (t : State) (j : Item) → Alike s i t j → prints_of s (i ∷ []) ≡ prints_of t (j ∷ [])
Alike-prints s i t j a = prints_bare s i ∙ (λ d. prints_of (a.states d) (a.items d ∷ [])) ∙ sym (prints_bare t j)

pub Alike-value : (lengths : List ℕ) (s : State) (i : Item) (t : State) (j : Item) → Alike s i t j → value_of lengths s i ≡ value_of lengths t j
Alike-value lengths s i t j a = value_bare lengths s i ∙ (λ d. value_of lengths (a.states d) (a.items d)) ∙ sym (value_bare lengths t j)

pub Alike-after : (lengths : List ℕ) (s : State) (i : Item) (t : State) (j : Item) → Alike s i t j → bare (state_after lengths s (i ∷ [])) ≡ bare (state_after lengths t (j ∷ []))
Alike-after lengths s i t j a = after_bare lengths s i ∙ (λ d. bare (state_after lengths (a.states d) (a.items d ∷ []))) ∙ sym (after_bare lengths t j)

-- states with the same names, arrays and input are equal
pub states_equal : (s t : State) → ((x : ℕ) → s.names x ≡ t.names x) → bare s ≡ bare t → s ≡ t
states_equal s t same rest = λ d. record { names = λ x. same x d; cells = (rest d).cells; input = (rest d).input }

-- ---- the same item in states that agree on the names that it reads

-- an operand has the same value where the name that it reads has
pub same_operand : (names others : ℕ → ℤ) (o : Operand) → ((x : ℕ) → reads_name o x ≡ true → names x ≡ others x) → operand_value names o ≡ operand_value others o
same_operand names others (Name x) h = h x (own_number x)
same_operand names others (Lit value) h = refl

-- so have both of two operands
same_left : (names others : ℕ → ℤ) (l r : Operand) → ((x : ℕ) → (reads_name l x || reads_name r x) ≡ true → names x ≡ others x) → operand_value names l ≡ operand_value others l
same_left names others l r h = same_operand names others l (λ x p. h x (or_first (reads_name l x) (reads_name r x) p))

same_right : (names others : ℕ → ℤ) (l r : Operand) → ((x : ℕ) → (reads_name l x || reads_name r x) ≡ true → names x ≡ others x) → operand_value names r ≡ operand_value others r
same_right names others l r h = same_operand names others r (λ x p. h x (or_second (reads_name l x) (reads_name r x) p))

-- and so has an item all its values
pub same_evaluated : (names others : ℕ → ℤ) (i : Item) → ((x : ℕ) → reads i x ≡ true → names x ≡ others x) → evaluated names i ≡ evaluated others i
same_evaluated names others (Bin op dest left right) h = λ d. Bin op 0 (Lit (same_left names others left right h d)) (Lit (same_right names others left right h d))
same_evaluated names others (Copy dest from) h = λ d. Copy 0 (Lit (same_operand names others from h d))
same_evaluated names others (Load dest array index) h = λ d. Load 0 array (Lit (same_operand names others index h d))
same_evaluated names others (Store array index value) h = λ d. Store array (Lit (same_left names others index value h d)) (Lit (same_right names others index value h d))
same_evaluated names others (Print value) h = λ d. Print (Lit (same_operand names others value h d))
same_evaluated names others (Read dest) h = refl
same_evaluated names others (More dest) h = refl
