-- Trees that are alike use names that correspond, and of the names that correspond only those that are used count.
use Rattle.std.proofs.Common.{◌≡◌, ℕ, List, [], ◌∷◌, inl, inr, refl, sym, subst}
use Rattle.std.specs.Prelude.{Bool, true, false, not, ◌&&◌, ◌||◌, if◌then◌else◌, nat_eq, Option, Some, None}
use Rattle.std.specs.List.{AllByRecursion}
use Rattle.std.proofs.lemmas.Bool.{eqb-true, eq-eqb}
use Rattle.pc_word.specs.declared.item.Item.{Item}
use Rattle.pc_word.specs.declared.item.Operand.{Operand}
use Rattle.pc_word.specs.declared.item.Operand.TheVariants.{Name, Lit}
use Rattle.pc_word.specs.Items.{dest_of, reads, reads_name}
use Rattle.pc_word.specs.Commit.{writes}
use Rattle.pc_word.proofs.Truth.{or_first, or_second, or_true, same_test}
use Rattle.pc_linear.specs.Form.{Form}
use Rattle.pc_table.proofs.Tests.{needed_above}
use Rattle.pc_window.specs.declared.home.Home.{Home}
use Rattle.pc_window.specs.Tree.{Tree}
use Rattle.pc_window.specs.Names.{homes_use, uses}
use Rattle.pc_window.specs.Rebasing.{is_in}
use Rattle.pc_canon.specs.Pairs.{Pair, corresponds, defined, OperandsAlike, HomesAlike}
use Rattle.pc_canon.specs.Shift.{ItemsAlike, both_bin, both_copy, both_load, both_store, both_print, both_read, both_more, Maps, TreesAlike, both_then, both_either, both_exit, both_stop, both_trap}
use Rattle.pc_canon.proofs.Alike.{EachAlike, no_more, one_more}
use Rattle.pc_canon.proofs.CanonicalTrees.{BothOrNeither, both_or_neither}
use Rattle.pc_canon.proofs.FormsKept.{Corr, uses_alike, first_uses_alike}
use Rattle.pc_canon.proofs.ParameterLists.{parameters_listed, parameters_used}

-- ---- names that are used

-- what stands in one of two lists that are related place by place is related to something in the other
found_right : {R : ℕ → ℕ → Type 0} (P : ℕ → Type 0) (x : ℕ) {xs ys : List ℕ} → EachAlike R xs ys → AllByRecursion P ys → is_in x xs ≡ true → (y : ℕ) × P y × R x y
found_right P x no_more h is = absurd (cc)
found_right {R} P x (one_more {a} {b} {xs} {ys} r t) h is = elim (or_true (nat_eq x a) (is_in x xs) is) [
  | inl k ↦ (b, h.0, subst (λ (z : ℕ). R z b) (sym (eqb-true x a k)) r)
  | inr k ↦ found_right P x t h.1 k
]

found_left : {R : ℕ → ℕ → Type 0} (P : ℕ → Type 0) (y : ℕ) {xs ys : List ℕ} → EachAlike R xs ys → AllByRecursion P xs → is_in y ys ≡ true → (x : ℕ) × P x × R x y
found_left P y no_more h is = absurd (cc)
found_left {R} P y (one_more {a} {b} {xs} {ys} r t) h is = elim (or_true (nat_eq y b) (is_in y ys) is) [
  | inl k ↦ (a, h.0, subst (λ (z : ℕ). R a z) (sym (eqb-true y b k)) r)
  | inr k ↦ found_left P y t h.1 k
]

-- a name that the one tree uses corresponds to one that the other uses
pub used_right : {maps : Maps} {f g : ℕ → Form} {names : List Pair} {t u : Tree} (x : ℕ) → TreesAlike maps f g names t u → uses t x ≡ true
    → (y : ℕ) × (uses u y ≡ true) × Corr names x y
used_right {names} {t} {u} x h is = found_right (λ y. uses u y ≡ true) x (first_uses_alike names (uses_alike h)) (parameters_used u) (parameters_listed t x is)

pub used_left : {maps : Maps} {f g : ℕ → Form} {names : List Pair} {t u : Tree} (y : ℕ) → TreesAlike maps f g names t u → uses u y ≡ true
    → (x : ℕ) × (uses t x ≡ true) × Corr names x y
used_left {names} {t} {u} y h is = found_left (λ x. uses t x ≡ true) y (first_uses_alike names (uses_alike h)) (parameters_used t) (parameters_listed u y is)

head_right : (b b' c : Bool) → b ≡ true → (if b then b' else (not b' && c)) ≡ true → b' ≡ true
head_right true b' c e h = h
head_right false b' c e h = absurd (cc)

head_left : (b b' c : Bool) → b' ≡ true → (if b then b' else (not b' && c)) ≡ true → b ≡ true
head_left true b' c e h = refl
head_left false true c e h = absurd (cc)
head_left false false c e h = absurd (cc)

-- of the two names that were defined last both trees use theirs, or neither does
pub used_same : {maps : Maps} {f g : ℕ → Form} {names : List Pair} {t u : Tree} (d d' : ℕ) → TreesAlike maps f g ((record { one = d; other = d' }) ∷ names) t u
    → uses t d ≡ uses u d'
used_same {names} {t} {u} d d' h = same_test (uses t d) (uses u d')
    (λ e. (let y = used_right d h e in
    let is : nat_eq d' y.0 ≡ true = head_right (nat_eq d d) (nat_eq d' y.0) (corresponds names d y.0) (eq-eqb d d refl) y.2 in
    subst (λ (z : ℕ). uses u z ≡ true) (sym (eqb-true d' y.0 is)) y.1))
    (λ e. (let x = used_left d' h e in
    let is : nat_eq d x.0 ≡ true = head_left (nat_eq d x.0) (nat_eq d' d') (corresponds names x.0 d') (eq-eqb d' d' refl) x.2 in
    subst (λ (z : ℕ). uses t z ≡ true) (sym (eqb-true d x.0 is)) x.1))

-- ---- other names that correspond

-- what corresponds by the one list corresponds by the other, of these names
abbrev pub Keeps : List Pair → List Pair → (ℕ → Bool) → (ℕ → Bool) → Type 0
Keeps names names' P Q = (x y : ℕ) → P x ≡ true → Q y ≡ true → Corr names x y → Corr names' x y

operand_kept : (names names' : List Pair) (a b : Operand) → Keeps names names' (λ x. reads_name a x) (λ y. reads_name b y) → OperandsAlike names a b → OperandsAlike names' a b
operand_kept names names' (Name x) (Name y) k h = k x y (eq-eqb x x refl) (eq-eqb y y refl) h
operand_kept names names' (Lit a) (Lit b) k h = h
operand_kept names names' (Name x) (Lit b) k h = absurd h
operand_kept names names' (Lit a) (Name y) k h = absurd h

keeps_first : (names names' : List Pair) (P P' Q Q' : ℕ → Bool) → Keeps names names' (λ x. P x || Q x) (λ y. P' y || Q' y) → Keeps names names' P P'
keeps_first names names' P P' Q Q' k = λ x y p q. k x y (or_first (P x) (Q x) p) (or_first (P' y) (Q' y) q)

keeps_second : (names names' : List Pair) (P P' Q Q' : ℕ → Bool) → Keeps names names' (λ x. P x || Q x) (λ y. P' y || Q' y) → Keeps names names' Q Q'
keeps_second names names' P P' Q Q' k = λ x y p q. k x y (or_second (P x) (Q x) p) (or_second (P' y) (Q' y) q)

two_kept : (names names' : List Pair) (a b a' b' : Operand) → Keeps names names' (λ x. reads_name a x || reads_name b x) (λ y. reads_name a' y || reads_name b' y)
    → OperandsAlike names a a' → OperandsAlike names b b' → OperandsAlike names' a a' × OperandsAlike names' b b'
two_kept names names' a b a' b' k h h' = (
  operand_kept names names' a a' (keeps_first names names' (λ x. reads_name a x) (λ x. reads_name a' x) (λ x. reads_name b x) (λ x. reads_name b' x) k) h,
  operand_kept names names' b b' (keeps_second names names' (λ x. reads_name a x) (λ x. reads_name a' x) (λ x. reads_name b x) (λ x. reads_name b' x) k) h',
)

item_kept : {names : List Pair} {item other : Item} (names' : List Pair) → Keeps names names' (λ x. reads item x) (λ y. reads other y) → ItemsAlike names item other → ItemsAlike names' item other
item_kept {names} names' k (both_bin {left} {left'} {right} {right'} h h') = let p = two_kept names names' left right left' right' k h h' in both_bin p.0 p.1
item_kept {names} names' k (both_copy {from} {from'} h) = both_copy (operand_kept names names' from from' k h)
item_kept {names} names' k (both_load {index} {index'} h) = both_load (operand_kept names names' index index' k h)
item_kept {names} names' k (both_store {index} {index'} {value} {value'} h h') = let p = two_kept names names' index value index' value' k h h' in both_store p.0 p.1
item_kept {names} names' k (both_print {value} {value'} h) = both_print (operand_kept names names' value value' k h)
item_kept names' k both_read = both_read
item_kept names' k both_more = both_more

homes_kept : (names names' : List Pair) (homes homes' : List Home) → Keeps names names' (λ x. homes_use homes x) (λ y. homes_use homes' y)
    → HomesAlike names homes homes' → HomesAlike names' homes homes'
homes_kept names names' [] [] k h = tt
homes_kept names names' (home ∷ homes) (home' ∷ homes') k h = (
  h.0,
  operand_kept names names' home.value home'.value
      (keeps_first names names' (λ x. reads_name home.value x) (λ x. reads_name home'.value x) (λ x. homes_use homes x) (λ x. homes_use homes' x) k) h.1,
  homes_kept names names' homes homes'
      (keeps_second names names' (λ x. reads_name home.value x) (λ x. reads_name home'.value x) (λ x. homes_use homes x) (λ x. homes_use homes' x) k) h.2,
)
homes_kept names names' [] (home' ∷ homes') k h = absurd h
homes_kept names names' (home ∷ homes) [] k h = absurd h

both_tests : (b b' c c' : Bool) → (if b then b' else (not b' && c)) ≡ true → (b ≡ false → b' ≡ false → c ≡ true → c' ≡ true) → (if b then b' else (not b' && c')) ≡ true
both_tests true true c c' h f = refl
both_tests true false c c' h f = absurd (cc)
both_tests false true c c' h f = absurd (cc)
both_tests false false c c' h f = f refl refl h

-- below two definitions
keeps_below : (names names' : List Pair) (d d' : Option ℕ) (P P' Q Q' : ℕ → Bool) → BothOrNeither d d'
    → Keeps names names' (λ x. P x || (not (writes d x) && Q x)) (λ y. P' y || (not (writes d' y) && Q' y)) → Keeps (defined names d d') (defined names' d d') Q Q'
keeps_below names names' (Some a) (Some b) P P' Q Q' both k =
    λ x y p q h. both_tests (nat_eq a x) (nat_eq b y) (corresponds names x y) (corresponds names' x y) h
    (λ e e' c. k x y (needed_above (P x) (nat_eq a x) (Q x) e p) (needed_above (P' y) (nat_eq b y) (Q' y) e' q) c)
keeps_below names names' None None P P' Q Q' both k = λ x y p q h. k x y (needed_above (P x) false (Q x) refl p) (needed_above (P' y) false (Q' y) refl q) h
keeps_below names names' (Some a) None P P' Q Q' both k = absurd both
keeps_below names names' None (Some b) P P' Q Q' both k = absurd both

-- trees are alike by other names too that correspond, where those do that are used
pub tree_kept : {maps : Maps} {f g : ℕ → Form} {names : List Pair} {t u : Tree} (names' : List Pair) → Keeps names names' (λ x. uses t x) (λ y. uses u y)
    → TreesAlike maps f g names t u → TreesAlike maps f g names' t u
tree_kept {names} names' k (both_then {item} {item'} {rest} {rest'} tags items dests below) =
    both_then tags
    (item_kept names' (keeps_first names names' (λ x. reads item x) (λ x. reads item' x) (λ x. not (writes (dest_of item) x) && uses rest x)
    (λ x. not (writes (dest_of item') x) && uses rest' x) k) items)
    dests
    (tree_kept (defined names' (dest_of item) (dest_of item'))
    (keeps_below names names' (dest_of item) (dest_of item') (λ x. reads item x) (λ x. reads item' x) (λ x. uses rest x) (λ x. uses rest' x) (both_or_neither items) k) below)
tree_kept {names} names' k (both_either {on} {on'} {on_yes} {on_yes'} {on_no} {on_no'} tags test yes_side no_side) =
    let sides = keeps_second names names' (λ x. reads_name on x) (λ x. reads_name on' x) (λ x. uses on_yes x || uses on_no x) (λ x. uses on_yes' x || uses on_no' x) k in
    both_either tags
    (operand_kept names names' on on' (keeps_first names names' (λ x. reads_name on x) (λ x. reads_name on' x) (λ x. uses on_yes x || uses on_no x) (λ x. uses on_yes' x || uses on_no' x) k) test)
    (tree_kept names' (keeps_first names names' (λ x. uses on_yes x) (λ x. uses on_yes' x) (λ x. uses on_no x) (λ x. uses on_no' x) sides) yes_side)
    (tree_kept names' (keeps_second names names' (λ x. uses on_yes x) (λ x. uses on_yes' x) (λ x. uses on_no x) (λ x. uses on_no' x) sides) no_side)
tree_kept {names} names' k (both_exit {homes} {homes'} tags h) = both_exit tags (homes_kept names names' homes homes' k h)
tree_kept names' k both_stop = both_stop
tree_kept names' k both_trap = both_trap
