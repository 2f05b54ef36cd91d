-- Where two windows are equal up to a shift and corresponding parameters have the same values, the forms of the other hold where those of the one do.
use Rattle.std.proofs.Common.{◌≡◌, ℕ, List, [], ◌∷◌, ◌⊎◌, inl, inr, refl, ap, subst}
use Rattle.std.specs.Prelude.{ℤ, Bool, true, false, not, ◌&&◌, ◌||◌, if◌then◌else◌, nat_eq, Option, Some, None}
use Rattle.std.proofs.lemmas.Bool.{eqb-true, eq-eqb}
use Rattle.pc_word.specs.declared.item.Item.{Item}
use Rattle.pc_word.specs.declared.item.Operand.{Operand}
use Rattle.pc_word.specs.declared.item.Operand.TheVariants.{Name, Lit}
use Rattle.pc_word.proofs.Truth.{and_true, and_made, not_true, or_first, or_second, or_true}
use Rattle.pc_word.specs.Word.{holds}
use Rattle.pc_word.specs.State.{State}
use Rattle.pc_word.specs.Items.{operand_value, dest_of, value_of, reads_name, reads}
use Rattle.pc_word.specs.Commit.{writes, state_after}
use Rattle.pc_linear.specs.Form.{Form, Means}
use Rattle.pc_table.specs.Table.{Table}
use Rattle.pc_window.specs.declared.home.Home.{Home}
use Rattle.pc_window.specs.Tree.{Tree}
use Rattle.pc_window.specs.Names.{homes_use, uses}
use Rattle.pc_window.specs.Hold.{Side, DefinedMeans, DefinedHold}
use Rattle.pc_window.specs.WindowRun.{Window, FormsHold}
use Rattle.pc_canon.specs.Pairs.{Pair, corresponds, others, defined, OperandsAlike, HomesAlike, Correspond}
use Rattle.pc_canon.specs.Shift.{OneToOne, EachPair, FormsAlike, ItemsAlike, both_bin, both_copy, both_load, both_store, both_print, both_read, both_more, Maps, DestsAlike}
use Rattle.pc_canon.specs.Shift.{TreesAlike, both_then, both_either, both_exit, both_stop, both_trap, ShiftedBy}
use Rattle.pc_canon.proofs.Membership.{distinct_from}
use Rattle.pc_canon.proofs.Alike.{operands_alike}
use Rattle.pc_canon.proofs.Sums.{means_alike, other_words, other_words_same}
use Rattle.pc_canon.proofs.ShiftRuns.{items_alike, dests_of, states_alike}

-- ---- parameters

-- some name of the one window that has the property corresponds to y
abbrev Sought : List Pair → (ℕ → Bool) → ℕ → Type 0
Sought names P y = (x : ℕ) × (P x ≡ true) × (corresponds names x y ≡ true)

true_of_not : (b : Bool) → b ≡ false → not b ≡ true
true_of_not true h = absurd (cc)
true_of_not false h = refl

sought_either : (names : List Pair) (P Q : ℕ → Bool) (y : ℕ) → Sought names P y ⊎ Sought names Q y → Sought names (λ x. P x || Q x) y
sought_either names P Q y (inl h) = (h.0, or_first (P h.0) (Q h.0) h.1, h.2)
sought_either names P Q y (inr h) = (h.0, or_second (P h.0) (Q h.0) h.1, h.2)

-- what is found in one of two parts is found in both together
sought_parts : (names : List Pair) (P P' Q Q' : ℕ → Bool) (y : ℕ) → (P' y ≡ true → Sought names P y)
    → (Q' y ≡ true → Sought names Q y) → (P' y || Q' y) ≡ true → Sought names (λ x. P x || Q x) y
sought_parts names P P' Q Q' y p q h = elim (or_true (P' y) (Q' y) h) [
  | inl k ↦ sought_either names P Q y (inl (p k))
  | inr k ↦ sought_either names P Q y (inr (q k))
]

operand_sought : (names : List Pair) (a b : Operand) (y : ℕ) → OperandsAlike names a b → reads_name b y ≡ true → Sought names (λ x. reads_name a x) y
operand_sought names (Name x) (Name z) y h is =
    (x, eq-eqb x x refl, subst (λ (u : ℕ). corresponds names x u ≡ true) (eqb-true z y is) h)
operand_sought names (Name x) (Lit b) y h is = absurd h
operand_sought names (Lit a) (Name z) y h is = absurd h
operand_sought names (Lit a) (Lit b) y h is = absurd (cc)

item_sought : {names : List Pair} {item other : Item} (y : ℕ) → ItemsAlike names item other → reads other y ≡ true → Sought names (λ x. reads item x) y
item_sought {names} y (both_bin {left} {left'} {right} {right'} h k) is =
    sought_parts names (λ x. reads_name left x) (λ x. reads_name left' x) (λ x. reads_name right x) (λ x. reads_name right' x) y (operand_sought names left left' y h)
    (operand_sought names right right' y k) is
item_sought {names} y (both_copy {from} {from'} h) is = operand_sought names from from' y h is
item_sought {names} y (both_load {index} {index'} h) is = operand_sought names index index' y h is
item_sought {names} y (both_store {index} {index'} {value} {value'} h k) is =
    sought_parts names (λ x. reads_name index x) (λ x. reads_name index' x) (λ x. reads_name value x) (λ x. reads_name value' x) y (operand_sought names index index' y h)
    (operand_sought names value value' y k) is
item_sought {names} y (both_print {value} {value'} h) is = operand_sought names value value' y h is
item_sought y both_read is = absurd (cc)
item_sought y both_more is = absurd (cc)

homes_sought : (names : List Pair) (homes homes' : List Home) (y : ℕ) → HomesAlike names homes homes' → homes_use homes' y ≡ true → Sought names (λ x. homes_use homes x) y
homes_sought names [] [] y h is = absurd (cc)
homes_sought names (home ∷ homes) (home' ∷ homes') y h is =
    sought_parts names (λ x. reads_name home.value x) (λ x. reads_name home'.value x) (λ x. homes_use homes x) (λ x. homes_use homes' x) y
    (operand_sought names home.value home'.value y h.1) (homes_sought names homes homes' y h.2) is
homes_sought names [] (home' ∷ homes') y h is = absurd h
homes_sought names (home ∷ homes) [] y h is = absurd h

outer : (b b' c : Bool) → (if b then b' else (not b' && c)) ≡ true → b' ≡ false → (b ≡ false) × (c ≡ true)
outer true b' c h k = absurd (cc)
outer false true c h k = absurd (cc)
outer false false c h k = (refl, h)

-- what corresponds below two definitions and is not defined there corresponds above them
below_defined : (names : List Pair) (P : ℕ → Bool) (d d' : Option ℕ) (y : ℕ) → ((x : ℕ) × (z : ℕ) × (d ≡ Some x) × (d' ≡ Some z)) ⊎ ((d ≡ None) × (d' ≡ None))
    → writes d' y ≡ false → Sought (defined names d d') P y → Sought names (λ x. not (writes d x) && P x) y
below_defined names P (Some a) (Some b) y e free h =
    let o = outer (nat_eq a h.0) (nat_eq b y) (corresponds names h.0 y) h.2 free in
    (h.0, and_made (not (nat_eq a h.0)) (P h.0) (true_of_not (nat_eq a h.0) o.0) h.1, o.1)
below_defined names P None None y e free h = h
below_defined names P (Some a) None y e free h = elim e [ inl k ↦ absurd (cc) | inr k ↦ absurd (cc) ]
below_defined names P None (Some b) y e free h = elim e [ inl k ↦ absurd (cc) | inr k ↦ absurd (cc) ]

-- each parameter of the other tree corresponds to one of the one tree
parameter_sought : {maps : Maps} {forms forms' : ℕ → Form} {names : List Pair} {one other : Tree} (y : ℕ) → TreesAlike maps forms forms' names one other
    → uses other y ≡ true → Sought names (λ x. uses one x) y
parameter_sought {names} y (both_then {item} {item'} {rest} {rest'} tags items dests below) is =
    sought_parts names (λ x. reads item x) (λ x. reads item' x) (λ x. not (writes (dest_of item) x) && uses rest x) (λ x. not (writes (dest_of item') x) && uses rest' x) y
    (item_sought y items)
    (λ h. let k = and_true (not (writes (dest_of item') y)) (uses rest' y) h in
    below_defined names (λ x. uses rest x) (dest_of item) (dest_of item') y (dests_of items) (not_true (writes (dest_of item') y) k.0) (parameter_sought y below k.1))
    is
parameter_sought {names} y (both_either {on} {on'} {on_yes} {on_yes'} {on_no} {on_no'} tags test yes_side no_side) is =
    sought_parts names (λ x. reads_name on x) (λ x. reads_name on' x) (λ x. uses on_yes x || uses on_no x) (λ x. uses on_yes' x || uses on_no' x) y
    (operand_sought names on on' y test)
    (sought_parts names (λ x. uses on_yes x) (λ x. uses on_yes' x) (λ x. uses on_no x) (λ x. uses on_no' x) y (parameter_sought y yes_side) (parameter_sought y no_side))
    is
parameter_sought {names} y (both_exit {homes} {homes'} tags h) is = homes_sought names homes homes' y h is
parameter_sought y both_stop is = absurd (cc)
parameter_sought y both_trap is = absurd (cc)

-- what is said of each pair is said of what corresponds
pub each_corresponds : (pairs : List Pair) (P : ℕ → ℕ → Type 0) (x y : ℕ) → EachPair pairs P → corresponds pairs x y ≡ true → P x y
each_corresponds [] P x y h is = absurd (cc)
each_corresponds (pair ∷ pairs) P x y h is =
    pick (nat_eq pair.one x) (nat_eq pair.other y) (corresponds pairs x y) (P x y) is
    (λ p q. subst (λ (u : ℕ). P u y) (eqb-true pair.one x p) (subst (λ (v : ℕ). P pair.one v) (eqb-true pair.other y q) h.0))
    (λ k. each_corresponds pairs P x y h.1 k)
  where
    pick : (b b' c : Bool) (A : Type 0) → (if b then b' else (not b' && c)) ≡ true → (b ≡ true → b' ≡ true → A) → (c ≡ true → A) → A
    pick true true c A h p q = p refl refl
    pick true false c A h p q = absurd (cc)
    pick false true c A h p q = absurd (cc)
    pick false false c A h p q = q h

-- ---- names that are defined

dest_holds : (variables : List Pair) (words words' : ℕ → ℤ) (forms forms' : ℕ → Form) (maps : Maps) (d d' : Option ℕ) (v v' : ℤ)
    → ((x : ℕ) × (z : ℕ) × (d ≡ Some x) × (d' ≡ Some z)) ⊎ ((d ≡ None) × (d' ≡ None))
    → OneToOne maps.variables → EachPair maps.variables (λ x y. words x ≡ words' y)
    → DestsAlike maps forms forms' d d' → v ≡ v' → DefinedMeans words forms d v → DefinedMeans words' forms' d' v'
dest_holds variables words words' forms forms' maps (Some x) (Some y) v v' e distinct same alike value h = subst (λ (z : ℤ). Means words' (forms' y) z) value
    (means_alike maps.variables words words' (forms x) (forms' y) distinct same alike v h)
dest_holds variables words words' forms forms' maps d None v v' e distinct same alike value h = tt
dest_holds variables words words' forms forms' maps None (Some y) v v' e distinct same alike value h = elim e [ inl k ↦ absurd (cc) | inr k ↦ absurd (cc) ]

sides_of : (b b' : Bool) (P Q P' Q' : Type 0) → b ≡ b' → (P → P') → (Q → Q') → Side b P Q → Side b' P' Q'
sides_of true true P Q P' Q' e p q h = p h
sides_of false false P Q P' Q' e p q h = q h
sides_of true false P Q P' Q' e p q h = absurd (cc)
sides_of false true P Q P' Q' e p q h = absurd (cc)

-- each name that the other tree's path defines has the value of its form
defined_holds : {maps : Maps} {forms forms' : ℕ → Form} {names : List Pair} {one other : Tree} (words words' : ℕ → ℤ) (lengths : List ℕ) (s t : State)
    → OneToOne maps.variables → EachPair maps.variables (λ x y. words x ≡ words' y) → Correspond names s t → TreesAlike maps forms forms' names one other
    → DefinedHold words forms lengths one s → DefinedHold words' forms' lengths other t
defined_holds {maps} {forms} {forms'} {names} words words' lengths s t distinct same c (both_then {item} {item'} {rest} {rest'} tags items dests below) h =
    let e = items_alike lengths s t c items in (
      dest_holds maps.variables words words' forms forms' maps (dest_of item) (dest_of item') (value_of lengths s item) (value_of lengths t item') (dests_of items) distinct same dests e.value h.0,
      defined_holds words words' lengths (state_after lengths s (item ∷ [])) (state_after lengths t (item' ∷ [])) distinct same (states_alike lengths s t c items) below h.1,
    )
defined_holds {maps} {forms} {forms'} {names} words words' lengths s t distinct same c (both_either {on} {on'} {on_yes} {on_yes'} {on_no} {on_no'} tags test yes_side no_side) h =
    sides_of (holds (operand_value s.names on)) (holds (operand_value t.names on'))
    (DefinedHold words forms lengths on_yes s) (DefinedHold words forms lengths on_no s) (DefinedHold words' forms' lengths on_yes' t) (DefinedHold words' forms' lengths on_no' t)
    (ap (λ (z : ℤ). holds z) (operands_alike names s t on on' c test))
    (defined_holds words words' lengths s t distinct same c yes_side) (defined_holds words words' lengths s t distinct same c no_side) h
defined_holds words words' lengths s t distinct same c (both_exit tags homes) h = tt
defined_holds words words' lengths s t distinct same c both_stop h = tt
defined_holds words words' lengths s t distinct same c both_trap h = tt

-- the forms of the other window hold
pub shifted_forms : (table : Table) (params : List Pair) (w v : Window) (s t : State) → ShiftedBy params w v → Correspond params s t → FormsHold table w s → FormsHold table v t
shifted_forms table params w v s t h c f =
    let maps = h.0 in
    let alike = h.1 in
    let words = f.0 in
    let words' = other_words maps.variables words in
    let same = other_words_same maps.variables words (distinct_from (others maps.variables) alike.variables_one_to_one.others_differ) in (
      words',
      record {
        parameters = λ y is.
            let x = parameter_sought y alike.trees is in
            subst (λ (z : ℤ). Means words' (v.forms y) z) (c.same_names x.0 y x.2)
            (means_alike maps.variables words words' (w.forms x.0) (v.forms y) alike.variables_one_to_one same
            (each_corresponds params (λ a b. FormsAlike maps.variables (w.forms a) (v.forms b)) x.0 y alike.params_alike x.2) (s.names x.0) (f.1.parameters x.0 x.1));
        defined = defined_holds words words' table.arrays s t alike.variables_one_to_one same c alike.trees f.1.defined;
      },
    )
