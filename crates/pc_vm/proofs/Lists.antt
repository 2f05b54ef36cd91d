-- Laws of lists: tests of images, elements after a write, and what is left after a place.
use Rattle.std.proofs.Common.{◌≡◌, ℕ, zero, suc, ◌+◌, ◌<◌, ◌≤◌, ◌≢◌, Bool, true, false, cond, ◌||◌, List, [], ◌∷◌, ◌++◌, length, map, drop, get_or}
use Rattle.std.proofs.Common.{inl, inr, None, refl, sym, ap, ◌∙◌, arith, get_or-set_same, get_or-set_other}
use Rattle.std.proofs.lemmas.Bool.Decides.{eqb_tells}
use Rattle.std.proofs.lemmas.Slice.{between_to_end}
use Rattle.std.proofs.Math.Seq.{drop-cons}
use Rattle.std.specs.Prelude.{ℤ, pos, nat_eq, if◌then◌else◌, slice_set, slice_get, slice_range, unwrap_or, is_some}
use Rattle.std.specs.List.{list_any, AllByRecursion}
use Rattle.pc_word.specs.Commit.{Stored, meets_at, some_meet}
use Rattle.pc_word.specs.Items.{next_input, some_left}
use Rattle.pc_vm.specs.declared.pending.PendingStore.{PendingStore}
use Rattle.pc_vm.specs.Contents.{Contents}
use Rattle.pc_vm.specs.models.Planned.{stored_of}

-- a test of the images
pub list_any-map : {X Y : Type 0} (test : Y → Bool) (f : X → Y) (xs : List X) → list_any test (map f xs) ≡ list_any (λ x. test (f x)) xs
list_any-map test f [] = refl
list_any-map test f (x ∷ xs) = ap (λ b. test (f x) || b) (list_any-map test f xs)

-- what a choice by a test of two numbers is
choose_same : {X : Type 0} (i j : ℕ) (x y : X) → i ≡ j → (if nat_eq i j then x else y) ≡ x
choose_same {X} i j x y e =
    elim (eqb_tells i j) [
      | inl t ↦ ap (λ (b : Bool). cond b x y) t.0
      | inr t ↦ absurd (t.1 e)
    ]

choose_other : {X : Type 0} (i j : ℕ) (x y : X) → i ≢ j → (if nat_eq i j then x else y) ≡ y
choose_other {X} i j x y e =
    elim (eqb_tells i j) [
      | inl t ↦ absurd (e t.1)
      | inr t ↦ ap (λ (b : Bool). cond b x y) t.0
    ]

-- the elements after one is written
pub get_or-write : {X : Type 0} (xs : List X) (i j : ℕ) (x d : X) → i < length xs → get_or (slice_set xs i x) j d ≡ (if nat_eq i j then x else get_or xs j d)
get_or-write {X} xs i j x d within =
    elim (eqb_tells i j) [
      | inl t ↦ ap (λ (k : ℕ). get_or (slice_set xs i x) k d) (sym t.1) ∙ get_or-set_same xs i x d within ∙ sym (choose_same i j x (get_or xs j d) t.1)
      | inr t ↦ get_or-set_other xs i j x d (λ e. t.1 (sym e)) ∙ sym (choose_other i j x (get_or xs j d) t.1)
    ]

-- and of the last
pub all_last : {X : Type 0} (P : X → Type 0) (xs : List X) (x : X) → AllByRecursion P (xs ++ x ∷ []) → P x
all_last P [] x h = h.0
all_last P (y ∷ ys) x h = all_last P ys x h.1

-- ---- the input

-- the first of what is left is the one at that place
pub slice_get-drop : {X : Type 0} (n : ℕ) (xs : List X) → slice_get (drop n xs) 0 ≡ slice_get xs n
slice_get-drop zero xs = refl
slice_get-drop (suc n) [] = refl
slice_get-drop (suc n) (x ∷ xs) = slice_get-drop n xs

-- whether some is left, and the next or 0
pub some_left-first : (words : List ℤ) → is_some (slice_get words 0) ≡ some_left words
some_left-first [] = refl
some_left-first (word ∷ words) = refl

pub next_input-first : (words : List ℤ) → unwrap_or (slice_get words 0) (pos 0) ≡ next_input words
next_input-first [] = refl
next_input-first (word ∷ words) = refl

-- one more is gone, if one is left
pub drop-one : {X : Type 0} (n : ℕ) (xs : List X) → drop (n + 1) xs ≡ drop 1 (drop n xs)
drop-one zero xs = refl
drop-one (suc n) [] = let e : suc n + 1 ≡ suc (n + 1) = omega arith in ap (λ k. drop k []) e
drop-one (suc n) (x ∷ xs) = let e : suc n + 1 ≡ suc (n + 1) = omega arith in ap (λ k. drop k (x ∷ xs)) e ∙ drop-one n xs

-- where none is left, no more is gone
pub drop-none : {X : Type 0} (n : ℕ) (xs : List X) → length xs ≤ n → drop n xs ≡ drop 1 (drop n xs)
drop-none zero [] past = refl
drop-none zero (x ∷ xs) past = absurd (omega arith)
drop-none (suc n) [] past = refl
drop-none (suc n) (x ∷ xs) past = drop-none n xs (omega arith)

-- ---- stores

-- a store outside its array meets none
pub never_meets : (array : ℕ) (stores : List Stored) → list_any (meets_at array None) stores ≡ false
never_meets array [] = refl
never_meets array (store ∷ stores) = never_meets array stores

-- the stores that are left, one after the other
meets-split : (stores others : List PendingStore) (i : ℕ) (none : PendingStore) → i < length stores → others ≡ slice_range stores (i + 1) (length stores)
    → some_meet (map stored_of (drop i stores))
    ≡ (list_any (meets_at (get_or stores i none).array (get_or stores i none).place) (map stored_of others) || some_meet (map stored_of (drop (i + 1) stores)))
meets-split stores others i none within are_others =
    let store : PendingStore = get_or stores i none in
    let next : suc i ≡ i + 1 = omega arith in
    let rest : drop (i + 1) stores ≡ others = sym (between_to_end stores (i + 1) (length stores) (omega arith)) ∙ sym are_others in
    ap (λ (ss : List PendingStore). some_meet (map stored_of ss)) (drop-cons stores i none within ∙ ap (λ (k : ℕ). store ∷ drop k stores) next)
    ∙ ap (λ (ss : List PendingStore). list_any (meets_at store.array store.place) (map stored_of ss) || some_meet (map stored_of (drop (i + 1) stores))) rest

-- where this one meets none of those after it, two meet where two of those do
pub meets-behind : (stores others : List PendingStore) (i : ℕ) (none : PendingStore) → i < length stores → others ≡ slice_range stores (i + 1) (length stores)
    → false ≡ list_any (meets_at (get_or stores i none).array (get_or stores i none).place) (map stored_of others)
    → some_meet (map stored_of (drop i stores)) ≡ some_meet (map stored_of (drop (i + 1) stores))
meets-behind stores others i none within are_others meets =
    meets-split stores others i none within are_others ∙ ap (λ b. b || some_meet (map stored_of (drop (i + 1) stores))) (sym meets)

-- where it meets one, two meet
pub meets-here : (stores others : List PendingStore) (i : ℕ) (none : PendingStore) → i < length stores → others ≡ slice_range stores (i + 1) (length stores)
    → true ≡ list_any (meets_at (get_or stores i none).array (get_or stores i none).place) (map stored_of others)
    → true ≡ some_meet (map stored_of (drop i stores))
meets-here stores others i none within are_others meets =
    sym (meets-split stores others i none within are_others ∙ ap (λ b. b || some_meet (map stored_of (drop (i + 1) stores))) (sym meets))

-- ---- what is held

-- where the first of none is gone, nothing is gone
pub keeps_input : (held : Contents) → held.input ≡ drop 1 held.input → held ≡ record { registers = held.registers; cells = held.cells; input = drop 1 held.input }
keeps_input held same = ap (λ (words : List ℤ). let it : Contents = record { registers = held.registers; cells = held.cells; input = words } in it) same
