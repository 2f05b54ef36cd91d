-- How registers are chosen, name by name: models of private code.
use Rattle.std.specs.Prelude.{◌≡◌, ℕ, zero, suc, ◌+◌, ◌-◌, ◌<◌, ◌≤◌, Bool, true, false, ◌&&◌, ◌||◌, if◌then◌else◌, nat_eq, nat_lt, List, [], ◌∷◌, ◌++◌, length, take, Option}
use Rattle.std.specs.Prelude.{Some, None, slice_get, MatchBool}
use Rattle.std.specs.Int.{bit_at}
use Rattle.pc_word.specs.declared.item.Item.{Item}
use Rattle.pc_word.specs.declared.item.Operand.{Operand}
use Rattle.pc_word.specs.Row.{Row, Then, Either, At_leaf}
use Rattle.pc_word.specs.Items.{dest_of}
use Rattle.pc_window.specs.Rebasing.{is_in}
use Rattle.pc_automaton.specs.declared.automaton.AutomatonLeaf.{AutomatonLeaf}
use Rattle.pc_assign.specs.Uses.{row_uses}
use Rattle.pc_machine.specs.Registers.{few_registers, most_registers}
use Rattle.pc_assign.specs.Pressure.{most_scratch, definitions_with}
use Rattle.pc_assign.specs.Assigned.{passed_at}
use Rattle.pc_assign.specs.declared.register_set.RegisterSet.{RegisterSet}

-- whether a number's bit is 1
abbrev pub bit_in : ℕ → ℕ → Bool
bit_in bits place = nat_eq (bit_at bits place) 1

-- whether a register is in a set: its bit is 1, among the few registers' or among the others'
abbrev pub member : RegisterSet → ℕ → Bool
member set register = if nat_lt register few_registers then bit_in set.low register else bit_in set.high (register - few_registers)

-- the least register that is not taken, or scratch if all below that are
pub record IsLeastAbsent (scratch : ℕ) (taken : ℕ → Bool) (register : ℕ) : Type 0 where
  pub most : register ≤ scratch
  pub free : register < scratch → taken register ≡ false
  pub least : (other : ℕ) → other < register → taken other ≡ true

-- ---- used parameters

-- whether the name at a place is used
abbrev pub is_used_at : (ℕ → Bool) → List ℕ → ℕ → Bool
is_used_at used [] at = false
is_used_at used (name ∷ names) zero = used name
is_used_at used (name ∷ names) (suc at) = is_used_at used names at

-- the places of the names that are used
abbrev pub IsUsedSet : (ℕ → Bool) → List ℕ → RegisterSet → Type 0
IsUsedSet used names set = (at : ℕ) → member set at ≡ is_used_at used names at

-- ---- parameters

-- registers of which none is above scratch
abbrev pub AreMost : ℕ → List ℕ → Type 0
AreMost scratch registers = (at register : ℕ) → slice_get registers at ≡ Some register → register ≤ scratch

-- and such that are passed
abbrev pub PassedMost : ℕ → List (Option ℕ) → Type 0
PassedMost scratch passed = (at register : ℕ) → passed_at (slice_get passed at) ≡ Some register → register ≤ scratch

-- a parameter's register
abbrev pub IsParameterTaken : ℕ → (ℕ → Bool) → Option ℕ → ℕ → Type 0
IsParameterTaken scratch taken (Some passed) register = MatchBool (taken passed) (IsLeastAbsent scratch taken register) (register ≡ passed)
IsParameterTaken scratch taken None register = IsLeastAbsent scratch taken register

-- registers of parameters, each chosen after those before it
abbrev pub AreParameters : ℕ → List (Option ℕ) → List ℕ → Type 0
AreParameters scratch passed held =
    (at register : ℕ) → slice_get held at ≡ Some register
    → IsParameterTaken scratch (λ other. is_in other (take at held)) (passed_at (slice_get passed at)) register

-- registers of the parameters of a state: those of the first state are the variables themselves
abbrev pub AreHeld : ℕ → ℕ → List (Option ℕ) → List ℕ → List ℕ → Type 0
AreHeld scratch zero passed parameters held = held ≡ parameters
AreHeld scratch (suc before) passed parameters held = AreParameters scratch passed held

-- ---- defined names

-- whether a parameter that is used has a register, where the parameters have these
abbrev pub used_holds : (ℕ → Bool) → List ℕ → List ℕ → ℕ → Bool
used_holds used [] held register = false
used_holds used (name ∷ names) [] register = false
used_holds used (name ∷ names) (is ∷ held) register = (used name && nat_eq register is) || used_holds used names held register

-- parameters with as many registers, and these as a set
pub record IsHeld (scratch : ℕ) (parameters held : List ℕ) (taken : RegisterSet) : Type 0 where
  pub fits : scratch < most_registers
  pub few : length parameters ≤ most_scratch
  pub as_many : length held ≡ length parameters
  pub most : AreMost scratch held
  pub set : (register : ℕ) → member taken register ≡ is_in register held

-- a defined name's register
pub data IsChosen (scratch : ℕ) (taken needed : ℕ → Bool) (register : ℕ) : Type 0 where
  Of_taken : register < scratch → IsLeastAbsent scratch taken register → IsChosen scratch taken needed register
  Of_needed : IsLeastAbsent scratch taken scratch → IsLeastAbsent scratch needed register → IsChosen scratch taken needed register

-- the registers that a row's names are given after others, below definitions that have these registers
pub data AreChosen (scratch : ℕ) (parameters held : List ℕ) : (above : ℕ → Bool) → Row AutomatonLeaf → (old new : List ℕ) → Type 0 where
  Leaf_chosen : {above : ℕ → Bool} {leaf : AutomatonLeaf} {old : List ℕ} → AreChosen scratch parameters held above (At_leaf leaf) old old
  None_chosen : {above : ℕ → Bool} {item : Item} {rest : Row AutomatonLeaf} {old new : List ℕ} →
      dest_of item ≡ None →
      AreChosen scratch parameters held above rest old new →
      AreChosen scratch parameters held above (Then item rest) old new
  One_chosen : {above below : ℕ → Bool} {item : Item} {dest register : ℕ} {rest : Row AutomatonLeaf} {old new : List ℕ} →
      dest_of item ≡ Some dest →
      IsChosen scratch (λ other. is_in other held || above other) (λ other. used_holds (row_uses rest) parameters held other || above other) register →
      ((other : ℕ) → below other ≡ (nat_eq other register || above other)) →
      AreChosen scratch parameters held below rest (old ++ register ∷ []) new →
      AreChosen scratch parameters held above (Then item rest) old new
  Sides_chosen : {above : ℕ → Bool} {on : Operand} {on_yes on_no : Row AutomatonLeaf} {old between new : List ℕ} →
      AreChosen scratch parameters held above on_yes old between →
      AreChosen scratch parameters held above on_no between new →
      AreChosen scratch parameters held above (Either on on_yes on_no) old new

-- how many names a row defines
abbrev pub definitions_in : Row AutomatonLeaf → ℕ
definitions_in (Then item rest) = definitions_with (dest_of item) (definitions_in rest)
definitions_in (Either on on_yes on_no) = definitions_in on_yes + definitions_in on_no
definitions_in (At_leaf leaf) = 0
