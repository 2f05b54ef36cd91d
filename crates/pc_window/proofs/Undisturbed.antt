-- What an item leaves of what another reads.
use Rattle.std.proofs.Common.{◌≡◌, ℕ, Bool, true, false, List, [], ◌∷◌, Option, Some, None, refl, sym, ◌∙◌, ap, subst}
use Rattle.pc_linear.proofs.Equalities.{never_equal-differ}
use Rattle.std.specs.Prelude.{ℤ, pos, negsuc, not, is_none, ◌||◌, ◌&&◌, if◌then◌else◌, nat_eq, nat_lt, slice_index}
use Rattle.std.specs.List.{AllByRecursion}
use Rattle.std.proofs.lemmas.Bool.{eqb-true}
use Rattle.pc_word.specs.declared.item.Item.{Item}
use Rattle.pc_word.specs.declared.item.Item.TheVariants.{Bin, Copy, Load, Store, Print, Read, More}
use Rattle.pc_word.specs.declared.item.Operand.{Operand}
use Rattle.pc_word.specs.declared.item.Operand.TheVariants.{Name, Lit}
use Rattle.pc_word.specs.Word.{word_apply, word_of_test}
use Rattle.pc_word.specs.declared.item.MachineFault.TheVariants.{StoreOutOfRange, ReadPastEnd}
use Rattle.pc_word.proofs.Lists.{all_imply}
use Rattle.pc_word.specs.State.{State}
use Rattle.pc_word.specs.Commit.{Stored, stores_of, prints_of, fault_of, writes}
use Rattle.pc_word.specs.Items.{operand_value, place_in, element_at, next_input, some_left, dest_of, value_of, is_effect, operands_of, reads}
use Rattle.pc_window.specs.Walk.{after_item}
use Rattle.pc_linear.specs.Form.{Form, Means}
use Rattle.pc_linear.specs.Equality.{NeverEqual}
use Rattle.pc_window.specs.Hold.{operand_form, KnownHold}
use Rattle.pc_window.specs.Names.{IsKnown, ReadsKnown, IsNew}
use Rattle.pc_window.specs.Conflict.{touch_of, NoStoreDependence, MayFollow}

-- what an item does is the same in two states
pub record Unmoved (lengths : List ℕ) (s t : State) (item : Item) : Type 0 where
  pub value : value_of lengths t item ≡ value_of lengths s item
  pub stores : stores_of lengths t (item ∷ []) ≡ stores_of lengths s (item ∷ [])
  pub prints : prints_of t (item ∷ []) ≡ prints_of s (item ∷ [])
  pub fault : fault_of lengths t (item ∷ []) ≡ fault_of lengths s (item ∷ [])

-- ---- names

-- what is written is not known where it is new
pub new-known : (known : ℕ → Bool) (dest : Option ℕ) (x : ℕ) → IsNew known dest → known x ≡ true → writes dest x ≡ false
new-known known None x new is = refl
new-known known (Some dest) x new is = elim (nat_eq dest x) as (λ b. nat_eq dest x ≡ b → b ≡ false) [
  | false ↦ λ e. refl
  | true ↦ λ e. absurd (let same : dest ≡ x = eqb-true dest x e in let h : true ≡ false = sym is ∙ sym (ap known same) ∙ new in cc)
] refl

-- a known name has after an item the value that it had
pub name-after : (lengths : List ℕ) (known : ℕ → Bool) (y : Item) (s : State) (x : ℕ) → IsNew known (dest_of y) → known x ≡ true
    → (after_item lengths y s).names x ≡ s.names x
name-after lengths known y s x new is = ap (λ (b : Bool). if b then value_of lengths s y else s.names x) (new-known known (dest_of y) x new is)

-- and so has a known operand
pub operand-after : (lengths : List ℕ) (known : ℕ → Bool) (y : Item) (s : State) (o : Operand) → IsNew known (dest_of y) → IsKnown known o
    → operand_value (after_item lengths y s).names o ≡ operand_value s.names o
operand-after lengths known y s (Name x) new is = name-after lengths known y s x new is
operand-after lengths known y s (Lit value) new is = refl

-- ---- elements

-- an element is at one index
pub place_in-same : (length : ℕ) (i j : ℤ) (place : ℕ) → place_in length i ≡ Some place → place_in length j ≡ Some place → i ≡ j
place_in-same length (pos i) (pos j) place p q =
    let there : (i : ℕ) → place_in length (pos i) ≡ Some place → i ≡ place = λ i. elim (nat_lt i length) as (λ b. (if b then Some i else None) ≡ Some place → i ≡ place) [
      | true ↦ λ e. cc
      | false ↦ λ e. absurd (cc)
    ] in ap pos (there i p ∙ sym (there j q))
place_in-same length (negsuc i) j place p q = absurd (cc)
place_in-same length (pos i) (negsuc j) place p q = absurd (cc)

-- a known operand has the value of its form
pub operand-form : (known : ℕ → Bool) (σ : ℕ → ℤ) (forms : ℕ → Form) (s : State) → KnownHold known σ forms s → (o : Operand) → IsKnown known o
    → Means σ (operand_form forms o) (operand_value s.names o)
operand-form known σ forms s h (Name x) is = h x is
operand-form known σ forms s h (Lit value) is = refl

-- known operands whose forms are never equal differ
pub forms-differ : (known : ℕ → Bool) (σ : ℕ → ℤ) (forms : ℕ → Form) (s : State) → KnownHold known σ forms s → (o p : Operand) → IsKnown known o → IsKnown known p
    → NeverEqual (operand_form forms o) (operand_form forms p) → operand_value s.names o ≡ operand_value s.names p → ⊥
forms-differ known σ forms s h o p oknown pknown never same =
    never_equal-differ (operand_form forms o) (operand_form forms p) never σ (operand_value s.names o) (operand_value s.names p)
    (operand-form known σ forms s h o oknown) (operand-form known σ forms s h p pknown) same

-- ---- what an item reads

-- the element that a load reads, in a state where its index has this value
abbrev pub loaded : List ℕ → State → ℕ → ℤ → ℤ
loaded lengths s array index = element_at (s.cells array) (place_in (slice_index lengths array) index)

-- a load would load the same
abbrev pub LoadsSame : List ℕ → State → State → Item → Type 0
LoadsSame lengths s t (Load dest array index) = loaded lengths t array (operand_value s.names index) ≡ loaded lengths s array (operand_value s.names index)
LoadsSame lengths s t (Bin op dest left right) = Unit {0}
LoadsSame lengths s t (Copy dest from) = Unit {0}
LoadsSame lengths s t (Store array index value) = Unit {0}
LoadsSame lengths s t (Print value) = Unit {0}
LoadsSame lengths s t (Read dest) = Unit {0}
LoadsSame lengths s t (More dest) = Unit {0}

-- an operand has the same value
abbrev pub SameValue : State → State → Operand → Type 0
SameValue s t o = operand_value t.names o ≡ operand_value s.names o

abbrev pub ReadsSame : State → State → Item → Type 0
ReadsSame s t item = AllByRecursion (SameValue s t) (operands_of item)

-- what an item reads alone decides what it does
pub unmoved_of : (lengths : List ℕ) (s t : State) (x : Item) → ReadsSame s t x → LoadsSame lengths s t x → (is_effect x ≡ true → t.input ≡ s.input) → Unmoved lengths s t x
unmoved_of lengths s t (Bin op dest left right) reads loads input =
    record {
      value = ap (λ (v : ℤ). word_apply op v (operand_value t.names right)) reads.0
          ∙ ap (λ (v : ℤ). word_apply op (operand_value s.names left) v) reads.1.0;
      stores = refl;
      prints = refl;
      fault = refl;
    }
unmoved_of lengths s t (Copy dest from) reads loads input = record { value = reads.0; stores = refl; prints = refl; fault = refl }
unmoved_of lengths s t (Load dest array index) reads loads input =
    record { value = ap (loaded lengths t array) reads.0 ∙ loads; stores = refl; prints = refl; fault = refl }
unmoved_of lengths s t (Store array index value) reads loads input =
    let stores : stores_of lengths t (Store array index value ∷ []) ≡ stores_of lengths s (Store array index value ∷ []) =
    ap (λ (i : ℤ). let one : Stored = record { array = array; place = place_in (slice_index lengths array) i; word = operand_value t.names value } in one ∷ []) reads.0
    ∙ ap (λ (v : ℤ). let one : Stored = record { array = array; place = place_in (slice_index lengths array) (operand_value s.names index); word = v } in one ∷ []) reads.1.0 in
    record { value = reads.1.0; stores = stores; prints = refl; fault = ap (λ (i : ℤ). if is_none (place_in (slice_index lengths array) i) || false then Some StoreOutOfRange else None) reads.0 }
unmoved_of lengths s t (Print value) reads loads input = record { value = reads.0; stores = refl; prints = ap (λ (v : ℤ). v ∷ []) reads.0; fault = refl }
unmoved_of lengths s t (Read dest) reads loads input =
    record { value = ap next_input (input refl); stores = refl; prints = refl; fault = ap (λ (l : List ℤ). if not (some_left l) then Some ReadPastEnd else None) (input refl) }
unmoved_of lengths s t (More dest) reads loads input =
    record { value = ap (λ (l : List ℤ). word_of_test (some_left l)) (input refl); stores = refl; prints = refl; fault = refl }

-- ---- what an item leaves of it

-- a load behind an item that spoils no element of it
loads-after : (lengths : List ℕ) (known : ℕ → Bool) (σ : ℕ → ℤ) (forms : ℕ → Form) (s : State) → KnownHold known σ forms s
    → (y x : Item) → ReadsKnown known y → ReadsKnown known x → NoStoreDependence forms (touch_of y) (touch_of x) → LoadsSame lengths s (after_item lengths y s) x
loads-after lengths known σ forms s holds (Store b j w) (Load dest a i) yknown xknown apart =
    element-kept (s.cells a) (nat_eq b a) (place_in (slice_index lengths b) (operand_value s.names j)) (operand_value s.names w) (place_in (slice_index lengths a) (operand_value s.names i))
    (λ p same there meets. let is : b ≡ a = eqb-true b a same in
    forms-differ known σ forms s holds j i yknown.0 xknown.0 (apart is refl)
    (place_in-same (slice_index lengths a) (operand_value s.names j) (operand_value s.names i) p
    (subst (λ (c : ℕ). place_in (slice_index lengths c) (operand_value s.names j) ≡ Some p) is there) meets))
  where
    element-kept : (cells : ℕ → ℤ) (same : Bool) (place : Option ℕ) (word : ℤ) (other : Option ℕ)
        → ((p : ℕ) → same ≡ true → place ≡ Some p → other ≡ Some p → ⊥)
        → element_at (λ p. if same && writes place p then word else cells p) other ≡ element_at cells other
    element-kept cells false place word (Some q) apart = refl
    element-kept cells true None word (Some q) apart = refl
    element-kept cells true (Some p) word (Some q) apart = elim (nat_eq p q) as (λ b. nat_eq p q ≡ b → (if b then word else cells q) ≡ cells q) [
      | false ↦ λ e. refl
      | true ↦ λ e. absurd (apart p refl refl (ap Some (sym (eqb-true p q e))))
    ] refl
    element-kept cells same place word None apart = refl
loads-after lengths known σ forms s holds (Bin op' d l r) (Load dest a i) yknown xknown apart = refl
loads-after lengths known σ forms s holds (Copy d f) (Load dest a i) yknown xknown apart = refl
loads-after lengths known σ forms s holds (Load d b j) (Load dest a i) yknown xknown apart = refl
loads-after lengths known σ forms s holds (Print v) (Load dest a i) yknown xknown apart = refl
loads-after lengths known σ forms s holds (Read d) (Load dest a i) yknown xknown apart = refl
loads-after lengths known σ forms s holds (More d) (Load dest a i) yknown xknown apart = refl
loads-after lengths known σ forms s holds y (Bin op dest left right) yknown xknown apart = tt
loads-after lengths known σ forms s holds y (Copy dest from) yknown xknown apart = tt
loads-after lengths known σ forms s holds y (Store array index value) yknown xknown apart = tt
loads-after lengths known σ forms s holds y (Print value) yknown xknown apart = tt
loads-after lengths known σ forms s holds y (Read dest) yknown xknown apart = tt
loads-after lengths known σ forms s holds y (More dest) yknown xknown apart = tt

-- an item that is no read takes no input
input-after : (lengths : List ℕ) (y : Item) (s : State) → is_effect y ≡ false → (after_item lengths y s).input ≡ s.input
input-after lengths (Bin op' d l r) s is = refl
input-after lengths (Copy d f) s is = refl
input-after lengths (Load d b j) s is = refl
input-after lengths (Store b j w) s is = refl
input-after lengths (Print v) s is = absurd (cc)
input-after lengths (Read d) s is = absurd (cc)
input-after lengths (More d) s is = absurd (cc)

only_one : (a b : Bool) → (a && b) ≡ false → b ≡ true → a ≡ false
only_one false b h k = refl
only_one true true h k = absurd (cc)
only_one true false h k = absurd (cc)

-- an item whose operands are known does the same in front of one that it may follow as behind it
pub unmoved : (lengths : List ℕ) (known : ℕ → Bool) (σ : ℕ → ℤ) (forms : ℕ → Form) (s : State) → KnownHold known σ forms s
    → (y x : Item) → ReadsKnown known y → ReadsKnown known x → IsNew known (dest_of y) → MayFollow forms y x → Unmoved lengths s (after_item lengths y s) x
unmoved lengths known σ forms s holds y x yknown xknown new follows =
    unmoved_of lengths s (after_item lengths y s) x
    (all_imply (IsKnown known) (SameValue s (after_item lengths y s)) (operands_of x) (λ o is. operand-after lengths known y s o new is) xknown)
    (loads-after lengths known σ forms s holds y x yknown xknown follows.no_store_dependence)
    (λ is. input-after lengths y s (only_one (is_effect y) (is_effect x) follows.one_effect is))
