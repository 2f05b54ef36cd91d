-- Two items that do not conflict may be exchanged in a walk.
use Rattle.std.proofs.Common.{◌≡◌, ℕ, Bool, true, false, List, [], ◌∷◌, ◌++◌, Option, Some, None, refl, sym, ◌∙◌, ap, subst, drop, ◌⊎◌, inl, inr}
use Rattle.std.specs.Prelude.{ℤ, ◌&&◌, if◌then◌else◌, nat_eq, slice_index}
use Rattle.std.specs.List.{AllByRecursion}
use Rattle.std.proofs.lemmas.Bool.{eqb-true}
use Rattle.pc_word.specs.declared.item.Item.{Item}
use Rattle.pc_word.specs.declared.item.Item.TheVariants.{Bin, Copy, Load, Store, Print, Read, More}
use Rattle.pc_word.specs.declared.item.MachineFault.{MachineFault}
use Rattle.pc_word.specs.State.{State}
use Rattle.pc_word.specs.Commit.{Stored, stores_of, prints_of, reads_of, fault_of, writes, is_at, cells_after}
use Rattle.pc_word.specs.Items.{operand_value, place_in, dest_of, value_of, is_effect}
use Rattle.pc_window.specs.Tree.{Tree, Pending}
use Rattle.pc_window.specs.Walk.{Walked, Leaves, Finishes, IsWhole, printing, unless_fault, after_item, walk}
use Rattle.pc_window.proofs.Shown.{shown}
use Rattle.pc_linear.specs.Form.{Form}
use Rattle.pc_window.specs.Hold.{KnownHold}
use Rattle.pc_window.specs.Names.{ReadsKnown}
use Rattle.pc_window.specs.declared.conflict.Touch.{Touch}
use Rattle.pc_window.specs.Conflict.{touch_of, NoDependence, NoStoreDependence, NoConflict, MayFollow}
use Rattle.pc_window.proofs.Undisturbed.{Unmoved, forms-differ, place_in-same}
use Rattle.pc_word.proofs.Truth.{or_second, or_first}

-- ---- conflicts go both ways

and_turned : (a b : Bool) → (a && b) ≡ false → (b && a) ≡ false
and_turned false false e = refl
and_turned false true e = refl
and_turned true false e = refl
and_turned true true e = e

store_dependence_first : (forms : ℕ → Form) (a b : Option Touch) → NoDependence forms a b → NoStoreDependence forms a b
store_dependence_first forms (Some a) (Some b) h = λ same stores. h same (or_first a.stores b.stores stores)
store_dependence_first forms (Some a) None h = tt
store_dependence_first forms None b h = tt

store_dependence_second : (forms : ℕ → Form) (a b : Option Touch) → NoDependence forms a b → NoStoreDependence forms b a
store_dependence_second forms (Some a) (Some b) h = λ same stores σ equal. h (sym same) (or_second a.stores b.stores stores) σ (sym equal)
store_dependence_second forms (Some a) None h = tt
store_dependence_second forms None (Some b) h = tt
store_dependence_second forms None None h = tt

pub follows_first : (forms : ℕ → Form) (y x : Item) → NoConflict forms y x → MayFollow forms y x
follows_first forms y x h = record { no_store_dependence = store_dependence_first forms (touch_of y) (touch_of x) h.no_dependence; one_effect = h.one_effect }

pub follows_second : (forms : ℕ → Form) (y x : Item) → NoConflict forms y x → MayFollow forms x y
follows_second forms y x h = record { no_store_dependence = store_dependence_second forms (touch_of y) (touch_of x) h.no_dependence; one_effect = and_turned (is_effect y) (is_effect x) h.one_effect }

-- ---- two stores

-- no element is stored to by both
abbrev pub StoresApart : List Stored → List Stored → Type 0
StoresApart [] right = Unit {0}
StoresApart (one ∷ left) right = AllByRecursion (λ other. (a p : ℕ) → is_at one a p ≡ true → is_at other a p ≡ true → ⊥) right × StoresApart left right

-- stores of items that may follow one another
pub stores_apart : (lengths : List ℕ) (known : ℕ → Bool) (σ : ℕ → ℤ) (forms : ℕ → Form) (s : State) → KnownHold known σ forms s
    → (y x : Item) → ReadsKnown known y → ReadsKnown known x → NoStoreDependence forms (touch_of y) (touch_of x)
    → StoresApart (stores_of lengths s (y ∷ [])) (stores_of lengths s (x ∷ []))
stores_apart lengths known σ forms s holds (Store b j w) (Store a i v) yknown xknown apart = (
  (
    λ c p at_y at_x.
        let y_at = both (nat_eq b c) (writes (place_in (slice_index lengths b) (operand_value s.names j)) p) at_y in
        let x_at = both (nat_eq a c) (writes (place_in (slice_index lengths a) (operand_value s.names i)) p) at_x in
        let yb : b ≡ c = eqb-true b c y_at.0 in
        let xa : a ≡ c = eqb-true a c x_at.0 in
        forms-differ known σ forms s holds j i yknown.0 xknown.0 (apart (yb ∙ sym xa) refl)
        (place_in-same (slice_index lengths c) (operand_value s.names j) (operand_value s.names i) p
        (subst (λ (d : ℕ). place_in (slice_index lengths d) (operand_value s.names j) ≡ Some p) yb (written (place_in (slice_index lengths b) (operand_value s.names j)) p y_at.1))
        (subst (λ (d : ℕ). place_in (slice_index lengths d) (operand_value s.names i) ≡ Some p) xa (written (place_in (slice_index lengths a) (operand_value s.names i)) p x_at.1))),
    tt,
  ),
  tt,
)
  where
    both : (a b : Bool) → (a && b) ≡ true → (a ≡ true) × (b ≡ true)
    both true b e = (refl, e)
    both false b e = absurd (cc)

    written : (place : Option ℕ) (p : ℕ) → writes place p ≡ true → place ≡ Some p
    written (Some q) p e = ap Some (eqb-true q p e)
    written None p e = absurd (cc)
stores_apart lengths known σ forms s holds (Store b j w) (Bin op d l r) yknown xknown apart = (tt, tt)
stores_apart lengths known σ forms s holds (Store b j w) (Copy d f) yknown xknown apart = (tt, tt)
stores_apart lengths known σ forms s holds (Store b j w) (Load d a i) yknown xknown apart = (tt, tt)
stores_apart lengths known σ forms s holds (Store b j w) (Print v) yknown xknown apart = (tt, tt)
stores_apart lengths known σ forms s holds (Store b j w) (Read d) yknown xknown apart = (tt, tt)
stores_apart lengths known σ forms s holds (Store b j w) (More d) yknown xknown apart = (tt, tt)
stores_apart lengths known σ forms s holds (Bin op d l r) x yknown xknown apart = tt
stores_apart lengths known σ forms s holds (Copy d f) x yknown xknown apart = tt
stores_apart lengths known σ forms s holds (Load d a i) x yknown xknown apart = tt
stores_apart lengths known σ forms s holds (Print v) x yknown xknown apart = tt
stores_apart lengths known σ forms s holds (Read d) x yknown xknown apart = tt
stores_apart lengths known σ forms s holds (More d) x yknown xknown apart = tt

-- one of two values, twice, in either order
swapped : {A : Type 0} (a b : Bool) (x y z : A) → (a ≡ true → b ≡ true → ⊥) → (if a then x else if b then y else z) ≡ (if b then y else if a then x else z)
swapped true true x y z h = absurd (h refl refl)
swapped true false x y z h = refl
swapped false true x y z h = refl
swapped false false x y z h = refl

-- a store before others that it does not meet may come after them
pub cells-first : (cells : ℕ → ℕ → ℤ) (one : Stored) (stores : List Stored)
    → AllByRecursion (λ other. (a p : ℕ) → is_at one a p ≡ true → is_at other a p ≡ true → ⊥) stores
    → (a p : ℕ) → cells_after cells (one ∷ stores) a p ≡ cells_after (cells_after cells (one ∷ [])) stores a p
cells-first cells one [] apart a p = refl
cells-first cells one (other ∷ stores) apart a p =
    swapped (is_at one a p) (is_at other a p) one.word other.word (cells_after cells stores a p) (apart.0 a p)
    ∙ ap (λ (z : ℤ). if is_at other a p then other.word else z) (cells-first cells one stores apart.1 a p)

-- an item stores at most once, so two items' stores may be exchanged
cells-exchange : (lengths : List ℕ) (cells : ℕ → ℕ → ℤ) (s : State) (y x : Item)
    → StoresApart (stores_of lengths s (y ∷ [])) (stores_of lengths s (x ∷ []))
    → (a p : ℕ) → cells_after (cells_after cells (stores_of lengths s (y ∷ []))) (stores_of lengths s (x ∷ [])) a p
    ≡ cells_after (cells_after cells (stores_of lengths s (x ∷ []))) (stores_of lengths s (y ∷ [])) a p
cells-exchange lengths cells s (Store b j w) x apart a p = sym (cells-first cells _ (stores_of lengths s (x ∷ [])) apart.0 a p)
cells-exchange lengths cells s (Bin op d l r) x apart a p = refl
cells-exchange lengths cells s (Copy d f) x apart a p = refl
cells-exchange lengths cells s (Load d b j) x apart a p = refl
cells-exchange lengths cells s (Print v) x apart a p = refl
cells-exchange lengths cells s (Read d) x apart a p = refl
cells-exchange lengths cells s (More d) x apart a p = refl

-- only a read takes input, and only one of two items is a read
input-exchange : (y x : Item) (input : List ℤ) → (is_effect y && is_effect x) ≡ false
    → drop (reads_of (x ∷ [])) (drop (reads_of (y ∷ [])) input) ≡ drop (reads_of (y ∷ [])) (drop (reads_of (x ∷ [])) input)
input-exchange (Bin op d l r) x input one = refl
input-exchange (Copy d f) x input one = refl
input-exchange (Load d b j) x input one = refl
input-exchange (Store b j w) x input one = refl
input-exchange (Print v) x input one = refl
input-exchange (More d) x input one = refl
input-exchange (Read d) (Bin op d' l r) input one = refl
input-exchange (Read d) (Copy d' f) input one = refl
input-exchange (Read d) (Load d' b j) input one = refl
input-exchange (Read d) (Store b j w) input one = refl
input-exchange (Read d) (Print v) input one = absurd (cc)
input-exchange (Read d) (Read d') input one = absurd (cc)
input-exchange (Read d) (More d') input one = absurd (cc)

-- only one of two items prints
prints-one : (s t : State) (y x : Item) → (is_effect y && is_effect x) ≡ false → (prints_of s (y ∷ []) ≡ []) ⊎ (prints_of t (x ∷ []) ≡ [])
prints-one s t (Bin op d l r) x one = inl refl
prints-one s t (Copy d f) x one = inl refl
prints-one s t (Load d b j) x one = inl refl
prints-one s t (Store b j w) x one = inl refl
prints-one s t (Read d) x one = inl refl
prints-one s t (More d) x one = inl refl
prints-one s t (Print v) (Bin op d' l r) one = inr refl
prints-one s t (Print v) (Copy d' f) one = inr refl
prints-one s t (Print v) (Load d' b j) one = inr refl
prints-one s t (Print v) (Store b j w) one = inr refl
prints-one s t (Print v) (Print v') one = absurd (cc)
prints-one s t (Print v) (Read d') one = absurd (cc)
prints-one s t (Print v) (More d') one = absurd (cc)

-- ---- states

-- two states are equal where their parts are
pub state_equal : (s t : State) → ((x : ℕ) → s.names x ≡ t.names x) → ((a p : ℕ) → s.cells a p ≡ t.cells a p) → s.input ≡ t.input → s ≡ t
state_equal s t names cells input = λ i. record { names = λ x. names x i; cells = λ a p. cells a p i; input = input i }

-- two items write no common name
abbrev pub DestsApart : Item → Item → Type 0
DestsApart y x = (z : ℕ) → writes (dest_of y) z ≡ true → writes (dest_of x) z ≡ true → ⊥

-- what is needed for two items to be exchanged in a state
pub record Exchangeable (lengths : List ℕ) (s : State) (y x : Item) : Type 0 where
  pub second : Unmoved lengths s (after_item lengths y s) x
  pub first : Unmoved lengths s (after_item lengths x s) y
  pub dests : DestsApart y x
  pub stores : StoresApart (stores_of lengths s (y ∷ [])) (stores_of lengths s (x ∷ []))
  pub one_effect : (is_effect y && is_effect x) ≡ false

-- the state after both is the same
pub states-exchanged : (lengths : List ℕ) (s : State) (y x : Item) → Exchangeable lengths s y x
    → after_item lengths x (after_item lengths y s) ≡ after_item lengths y (after_item lengths x s)
states-exchanged lengths s y x h = state_equal (after_item lengths x (after_item lengths y s)) (after_item lengths y (after_item lengths x s))
    (λ z. ap (λ (v : ℤ). if writes (dest_of x) z then v else if writes (dest_of y) z then value_of lengths s y else s.names z) h.second.value
    ∙ swapped (writes (dest_of x) z) (writes (dest_of y) z) (value_of lengths s x) (value_of lengths s y) (s.names z) (λ p q. h.dests z q p)
    ∙ ap (λ (v : ℤ). if writes (dest_of y) z then v else if writes (dest_of x) z then value_of lengths s x else s.names z) (sym h.first.value))
    (λ a p. ap (λ (l : List Stored). cells_after (cells_after s.cells (stores_of lengths s (y ∷ []))) l a p) h.second.stores
    ∙ cells-exchange lengths s.cells s y x h.stores a p
    ∙ ap (λ (l : List Stored). cells_after (cells_after s.cells (stores_of lengths s (x ∷ []))) l a p) (sym h.first.stores))
    (input-exchange y x s.input h.one_effect)

-- ---- walks

-- faults and prints of two items in either order, where the walk is no fault
outcome-exchanged : (fy fx : Option MachineFault) (py px : List ℤ) (w : Walked) → (py ≡ []) ⊎ (px ≡ [])
    → IsWhole (unless_fault fy (printing py (unless_fault fx (printing px w))))
    → unless_fault fx (printing px (unless_fault fy (printing py w))) ≡ unless_fault fy (printing py (unless_fault fx (printing px w)))
outcome-exchanged (Some f) fx py px w one ok = absurd ok
outcome-exchanged None (Some f) py px w one ok = absurd ok
outcome-exchanged None None py px (Leaves p r t) (inl none) ok = simp none
outcome-exchanged None None py px (Leaves p r t) (inr none) ok = simp none
outcome-exchanged None None py px (Finishes p e) (inl none) ok = simp none
outcome-exchanged None None py px (Finishes p e) (inr none) ok = simp none

-- what is done first and second may be done second and first, where the walk is no fault
pub walk-exchanged : (lengths : List ℕ) (tag origin tag' origin' : ℕ) (y x : Item) (rest : Tree) (s : State) → Exchangeable lengths s y x
    → IsWhole (walk lengths (Pending tag origin y (Pending tag' origin' x rest)) s)
    → walk lengths (Pending tag' origin' x (Pending tag origin y rest)) s ≡ walk lengths (Pending tag origin y (Pending tag' origin' x rest)) s
walk-exchanged lengths tag origin tag' origin' y x rest s h ok =
    let equal : walk lengths (Pending tag origin y (Pending tag' origin' x rest)) s
    ≡ unless_fault (fault_of lengths s (y ∷ [])) (printing (prints_of s (y ∷ []))
    (unless_fault (fault_of lengths s (x ∷ [])) (printing (prints_of s (x ∷ [])) (walk lengths rest (after_item lengths y (after_item lengths x s)))))) =
    ap (λ (f : Option MachineFault). unless_fault (fault_of lengths s (y ∷ []))
    (printing (prints_of s (y ∷ [])) (unless_fault f (printing (prints_of (after_item lengths y s) (x ∷ [])) (walk lengths rest (after_item lengths x (after_item lengths y s))))))) h.second.fault
    ∙ ap (λ (p : List ℤ). unless_fault (fault_of lengths s (y ∷ [])) (printing (prints_of s (y ∷ []))
    (unless_fault (fault_of lengths s (x ∷ [])) (printing p (walk lengths rest (after_item lengths x (after_item lengths y s))))))) h.second.prints
    ∙ ap (λ (t : State). unless_fault (fault_of lengths s (y ∷ [])) (printing (prints_of s (y ∷ []))
    (unless_fault (fault_of lengths s (x ∷ [])) (printing (prints_of s (x ∷ [])) (walk lengths rest t))))) (states-exchanged lengths s y x h) in
    let turned : walk lengths (Pending tag' origin' x (Pending tag origin y rest)) s
    ≡ unless_fault (fault_of lengths s (x ∷ [])) (printing (prints_of s (x ∷ []))
    (unless_fault (fault_of lengths s (y ∷ [])) (printing (prints_of s (y ∷ [])) (walk lengths rest (after_item lengths y (after_item lengths x s)))))) =
    ap (λ (f : Option MachineFault). unless_fault (fault_of lengths s (x ∷ []))
    (printing (prints_of s (x ∷ [])) (unless_fault f (printing (prints_of (after_item lengths x s) (y ∷ [])) (walk lengths rest (after_item lengths y (after_item lengths x s))))))) h.first.fault
    ∙ ap (λ (p : List ℤ). unless_fault (fault_of lengths s (x ∷ [])) (printing (prints_of s (x ∷ []))
    (unless_fault (fault_of lengths s (y ∷ [])) (printing p (walk lengths rest (after_item lengths y (after_item lengths x s))))))) h.first.prints in
    turned
    ∙ outcome-exchanged (fault_of lengths s (y ∷ [])) (fault_of lengths s (x ∷ [])) (prints_of s (y ∷ []))
    (prints_of s (x ∷ [])) (walk lengths rest (after_item lengths y (after_item lengths x s)))
    (prints-one s s y x h.one_effect) (subst IsWhole equal ok)
    ∙ sym equal

prints-swapped : (py px rest : List ℤ) → (py ≡ []) ⊎ (px ≡ []) → py ++ (px ++ rest) ≡ px ++ (py ++ rest)
prints-swapped py px rest (inl e) = ap (λ (l : List ℤ). l ++ (px ++ rest)) e ∙ sym (ap (λ (l : List ℤ). px ++ (l ++ rest)) e)
prints-swapped py px rest (inr e) = ap (λ (l : List ℤ). py ++ (l ++ rest)) e ∙ sym (ap (λ (l : List ℤ). l ++ (py ++ rest)) e)

-- and prints the same
pub shown-exchanged : (lengths : List ℕ) (y x : Item) (rest : Tree) (s : State) → Exchangeable lengths s y x → (n : ℕ)
    → prints_of s (y ∷ []) ++ (prints_of (after_item lengths y s) (x ∷ []) ++ shown lengths rest (after_item lengths x (after_item lengths y s)) n)
    ≡ prints_of s (x ∷ []) ++ (prints_of (after_item lengths x s) (y ∷ []) ++ shown lengths rest (after_item lengths y (after_item lengths x s)) n)
shown-exchanged lengths y x rest s h n =
    ap (λ (p : List ℤ). prints_of s (y ∷ []) ++ (p ++ shown lengths rest (after_item lengths x (after_item lengths y s)) n)) h.second.prints
    ∙ ap (λ (t : State). prints_of s (y ∷ []) ++ (prints_of s (x ∷ []) ++ shown lengths rest t n)) (states-exchanged lengths s y x h)
    ∙ prints-swapped (prints_of s (y ∷ [])) (prints_of s (x ∷ [])) (shown lengths rest (after_item lengths y (after_item lengths x s)) n) (prints-one s s y x h.one_effect)
    ∙ sym (ap (λ (p : List ℤ). prints_of s (x ∷ []) ++ (p ++ shown lengths rest (after_item lengths y (after_item lengths x s)) n)) h.first.prints)
