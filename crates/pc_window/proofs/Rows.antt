-- A path whose items may follow one another, done at once, is the same path done one item after another.
use Rattle.std.proofs.Common.{◌≡◌, ℕ, zero, suc, Bool, true, false, List, [], ◌∷◌, ◌++◌, Option, Some, None, refl, sym, ◌∙◌, ap, subst, drop, lt-ltb, arith}
use Rattle.std.specs.Prelude.{ℤ, ◌||◌, ◌&&◌, not, if◌then◌else◌, nat_lt}
use Rattle.std.specs.List.{AllByRecursion, list_any}
use Rattle.std.proofs.lemmas.Bool.{eq-eqb}
use Rattle.pc_word.specs.declared.item.Item.{Item}
use Rattle.pc_word.specs.declared.item.Item.TheVariants.{Bin, Copy, Load, Store, Print, Read, More}
use Rattle.pc_word.specs.declared.item.MachineFault.{MachineFault}
use Rattle.pc_word.specs.declared.item.MachineFault.TheVariants.{StoreOutOfRange, StoredTwice, ReadPastEnd}
use Rattle.pc_word.specs.State.{State}
use Rattle.pc_word.specs.Commit.{Stored, stores_of, prints_of, reads_of, writes, is_at, names_after, cells_after, is_outside, meets_at, some_meet, reads_past_end, fault_of, state_after}
use Rattle.pc_word.specs.Items.{some_left, dest_of, value_of}
use Rattle.pc_window.specs.Walk.{after_item}
use Rattle.pc_window.proofs.Undisturbed.{Unmoved}
use Rattle.pc_window.proofs.Exchange.{StoresApart, cells-first, state_equal}

-- what is needed of an item that comes behind another in one row
pub record Behind_in_row (lengths : List ℕ) (s : State) (x y : Item) : Type 0 where
  pub unmoved : Unmoved lengths s (after_item lengths x s) y
  pub dests : (z : ℕ) → writes (dest_of x) z ≡ true → writes (dest_of y) z ≡ true → ⊥
  pub stores : StoresApart (stores_of lengths s (x ∷ [])) (stores_of lengths s (y ∷ []))

abbrev pub AllBehind : List ℕ → State → Item → List Item → Type 0
AllBehind lengths s x path = AllByRecursion (Behind_in_row lengths s x) path

-- ---- one item and the others

stores-front : (lengths : List ℕ) (s : State) (y : Item) (path : List Item) → stores_of lengths s (y ∷ path) ≡ stores_of lengths s (y ∷ []) ++ stores_of lengths s path
stores-front lengths s (Bin op d l r) path = refl
stores-front lengths s (Copy d f) path = refl
stores-front lengths s (Load d a i) path = refl
stores-front lengths s (Store a i v) path = refl
stores-front lengths s (Print v) path = refl
stores-front lengths s (Read d) path = refl
stores-front lengths s (More d) path = refl

pub prints-front : (s : State) (y : Item) (path : List Item) → prints_of s (y ∷ path) ≡ prints_of s (y ∷ []) ++ prints_of s path
prints-front s (Bin op d l r) path = refl
prints-front s (Copy d f) path = refl
prints-front s (Load d a i) path = refl
prints-front s (Store a i v) path = refl
prints-front s (Print v) path = refl
prints-front s (Read d) path = refl
prints-front s (More d) path = refl

-- stores and prints of the others are as they are behind the item
stores-behind : (lengths : List ℕ) (s : State) (x : Item) (path : List Item) → AllBehind lengths s x path → stores_of lengths (after_item lengths x s) path ≡ stores_of lengths s path
stores-behind lengths s x [] h = refl
stores-behind lengths s x (y ∷ path) h =
    stores-front lengths (after_item lengths x s) y path
    ∙ ap (λ (l : List Stored). l ++ stores_of lengths (after_item lengths x s) path) h.0.unmoved.stores
    ∙ ap (λ (l : List Stored). stores_of lengths s (y ∷ []) ++ l) (stores-behind lengths s x path h.1)
    ∙ sym (stores-front lengths s y path)

prints-behind : (lengths : List ℕ) (s : State) (x : Item) (path : List Item) → AllBehind lengths s x path → prints_of (after_item lengths x s) path ≡ prints_of s path
prints-behind lengths s x [] h = refl
prints-behind lengths s x (y ∷ path) h =
    prints-front (after_item lengths x s) y path
    ∙ ap (λ (l : List ℤ). l ++ prints_of (after_item lengths x s) path) h.0.unmoved.prints
    ∙ ap (λ (l : List ℤ). prints_of s (y ∷ []) ++ l) (prints-behind lengths s x path h.1)
    ∙ sym (prints-front s y path)

swapped : {A : Type 0} (a b : Bool) (x y z : A) → (a ≡ true → b ≡ true → ⊥) → (if a then x else if b then y else z) ≡ (if b then y else if a then x else z)
swapped true true x y z h = absurd (h refl refl)
swapped true false x y z h = refl
swapped false true x y z h = refl
swapped false false x y z h = refl

names-behind : (lengths : List ℕ) (s : State) (x : Item) (path : List Item) → AllBehind lengths s x path → (z : ℕ)
    → names_after lengths s (x ∷ path) z ≡ names_after lengths (after_item lengths x s) path z
names-behind lengths s x [] h z = refl
names-behind lengths s x (y ∷ path) h z =
    swapped (writes (dest_of x) z) (writes (dest_of y) z) (value_of lengths s x) (value_of lengths s y) (names_after lengths s path z) (h.0.dests z)
    ∙ ap (λ (v : ℤ). if writes (dest_of y) z then value_of lengths s y else v) (names-behind lengths s x path h.1 z)
    ∙ ap (λ (v : ℤ). if writes (dest_of y) z then v else names_after lengths (after_item lengths x s) path z) (sym h.0.unmoved.value)

-- the item's store meets none of theirs
abbrev pub MeetsNone : Stored → List Stored → Type 0
MeetsNone one stores = AllByRecursion (λ other. (a p : ℕ) → is_at one a p ≡ true → is_at other a p ≡ true → ⊥) stores

append_all : (one : Stored) (xs ys : List Stored) → MeetsNone one xs → MeetsNone one ys → MeetsNone one (xs ++ ys)
append_all one [] ys h k = k
append_all one (x ∷ xs) ys h k = (h.0, append_all one xs ys h.1 k)

apart-behind : (lengths : List ℕ) (s : State) (x : Item) (path : List Item) → AllBehind lengths s x path → StoresApart (stores_of lengths s (x ∷ [])) (stores_of lengths s path)
apart-behind lengths s x [] h = none (stores_of lengths s (x ∷ []))
  where
    none : (left : List Stored) → StoresApart left []
    none [] = tt
    none (one ∷ left) = (tt, none left)
apart-behind lengths s x (y ∷ path) h =
    subst (StoresApart (stores_of lengths s (x ∷ []))) (sym (stores-front lengths s y path))
    (both (stores_of lengths s (x ∷ [])) (stores_of lengths s (y ∷ [])) (stores_of lengths s path) h.0.stores (apart-behind lengths s x path h.1))
  where
    both : (left xs ys : List Stored) → StoresApart left xs → StoresApart left ys → StoresApart left (xs ++ ys)
    both [] xs ys h k = tt
    both (one ∷ left) xs ys h k = (append_all one xs ys h.0 k.0, both left xs ys h.1 k.1)

-- ---- the state after

cells-behind : (lengths : List ℕ) (s : State) (x : Item) (path : List Item) → StoresApart (stores_of lengths s (x ∷ [])) (stores_of lengths s path) → (a p : ℕ)
    → cells_after s.cells (stores_of lengths s (x ∷ path)) a p ≡ cells_after (cells_after s.cells (stores_of lengths s (x ∷ []))) (stores_of lengths s path) a p
cells-behind lengths s (Store b j w) path apart a p = cells-first s.cells _ (stores_of lengths s path) apart.0 a p
cells-behind lengths s (Bin op d l r) path apart a p = refl
cells-behind lengths s (Copy d f) path apart a p = refl
cells-behind lengths s (Load d b j) path apart a p = refl
cells-behind lengths s (Print v) path apart a p = refl
cells-behind lengths s (Read d) path apart a p = refl
cells-behind lengths s (More d) path apart a p = refl

input-behind : (x : Item) (path : List Item) (input : List ℤ) → drop (reads_of (x ∷ path)) input ≡ drop (reads_of path) (drop (reads_of (x ∷ [])) input)
input-behind (Store b j w) path input = refl
input-behind (Bin op d l r) path input = refl
input-behind (Copy d f) path input = refl
input-behind (Load d b j) path input = refl
input-behind (Print v) path input = refl
input-behind (More d) path input = refl
input-behind (Read d) path [] = drop_none (reads_of path)
  where
    drop_none : (n : ℕ) → drop {A = ℤ} (suc n) [] ≡ drop n (drop {A = ℤ} 1 [])
    drop_none zero = refl
    drop_none (suc n) = refl
input-behind (Read d) path (word ∷ words) = refl

-- an item and then the others behind it, or all at once
pub state-behind : (lengths : List ℕ) (s : State) (x : Item) (path : List Item) → AllBehind lengths s x path
    → state_after lengths s (x ∷ path) ≡ state_after lengths (after_item lengths x s) path
state-behind lengths s x path h = state_equal (state_after lengths s (x ∷ path)) (state_after lengths (after_item lengths x s) path)
    (names-behind lengths s x path h)
    (λ a p. cells-behind lengths s x path (apart-behind lengths s x path h) a p
    ∙ ap (λ (l : List Stored). cells_after (cells_after s.cells (stores_of lengths s (x ∷ []))) l a p) (sym (stores-behind lengths s x path h)))
    (input-behind x path s.input)

pub prints-all : (lengths : List ℕ) (s : State) (x : Item) (path : List Item) → AllBehind lengths s x path
    → prints_of s (x ∷ path) ≡ prints_of s (x ∷ []) ++ prints_of (after_item lengths x s) path
prints-all lengths s x path h = prints-front s x path ∙ ap (λ (l : List ℤ). prints_of s (x ∷ []) ++ l) (sym (prints-behind lengths s x path h))

-- ---- faults

abbrev pub fault_from : Bool → Bool → Bool → Option MachineFault
fault_from outside twice past = if outside then Some StoreOutOfRange else if twice then Some StoredTwice else if past then Some ReadPastEnd else None

-- no fault means none of the three
none_of_three : (outside twice past : Bool) → fault_from outside twice past ≡ None → (outside ≡ false) × (twice ≡ false) × (past ≡ false)
none_of_three true twice past h = absurd (cc)
none_of_three false true past h = absurd (cc)
none_of_three false false true h = absurd (cc)
none_of_three false false false h = (refl, refl, refl)

three_none : (outside twice past : Bool) → outside ≡ false → twice ≡ false → past ≡ false → fault_from outside twice past ≡ None
three_none outside twice past a b c = rw (a, b, c) refl

any-append : (p : Stored → Bool) (xs ys : List Stored) → list_any p xs ≡ false → list_any p ys ≡ false → list_any p (xs ++ ys) ≡ false
any-append p [] ys h k = k
any-append p (x ∷ xs) ys h k = elim (p x) as (λ b. (b || list_any p xs) ≡ false → (b || list_any p (xs ++ ys)) ≡ false) [
  | true ↦ λ e. absurd (cc)
  | false ↦ λ e. any-append p xs ys e k
] h

-- a store that meets none
meets-none : (one : Stored) (stores : List Stored) → MeetsNone one stores → list_any (meets_at one.array one.place) stores ≡ false
meets-none one [] h = refl
meets-none one (other ∷ stores) h =
    rw (meets_not one.place refl, meets-none one stores h.1) refl
  where
    here : (p : ℕ) → one.place ≡ Some p → is_at one one.array p ≡ true
    here p e = rw (e, eq-eqb one.array one.array refl, eq-eqb p p refl) refl

    meets_not : (place : Option ℕ) → one.place ≡ place → meets_at one.array place other ≡ false
    meets_not None e = refl
    meets_not (Some p) e = elim (is_at other one.array p) as (λ b. is_at other one.array p ≡ b → b ≡ false) [
      | false ↦ λ k. refl
      | true ↦ λ k. absurd (h.0 one.array p (here p e) k)
    ] refl

meet-append : (xs ys : List Stored) → StoresApart xs ys → some_meet xs ≡ false → some_meet ys ≡ false → some_meet (xs ++ ys) ≡ false
meet-append [] ys apart h k = k
meet-append (x ∷ xs) ys apart h k = elim (list_any (meets_at x.array x.place) xs) as (λ b. list_any (meets_at x.array x.place) xs ≡ b → (b || some_meet xs) ≡ false
    → (list_any (meets_at x.array x.place) (xs ++ ys) || some_meet (xs ++ ys)) ≡ false) [
      | true ↦ λ e g. absurd (cc)
      | false ↦ λ e g. rw (any-append (meets_at x.array x.place) xs ys e (meets-none x ys apart.0), meet-append xs ys apart.1 g k) refl
    ] refl h

-- reads of an item and of others
past-behind : (lengths : List ℕ) (s : State) (x : Item) (path : List Item) → reads_past_end s (x ∷ []) ≡ false → reads_past_end (after_item lengths x s) path ≡ false
    → reads_past_end s (x ∷ path) ≡ false
past-behind lengths s (Store b j w) path h k = k
past-behind lengths s (Bin op d l r) path h k = k
past-behind lengths s (Copy d f) path h k = k
past-behind lengths s (Load d b j) path h k = k
past-behind lengths s (Print v) path h k = k
past-behind lengths s (More d) path h k = k
past-behind lengths s (Read d) path h k = let e : nat_lt 0 (suc (reads_of path)) ≡ true = lt-ltb 0 (suc (reads_of path)) (omega arith) in ap (λ (b : Bool). b && not (some_left s.input)) e ∙ h

-- where neither the item nor the others behind it fault, they do not fault at once
pub no-fault-behind : (lengths : List ℕ) (s : State) (x : Item) (path : List Item) → AllBehind lengths s x path
    → fault_of lengths s (x ∷ []) ≡ None → fault_of lengths (after_item lengths x s) path ≡ None → fault_of lengths s (x ∷ path) ≡ None
no-fault-behind lengths s x path h none none' =
    let one = none_of_three (list_any is_outside (stores_of lengths s (x ∷ []))) (some_meet (stores_of lengths s (x ∷ []))) (reads_past_end s (x ∷ [])) none in
    let others = none_of_three (list_any is_outside (stores_of lengths (after_item lengths x s) path)) (some_meet (stores_of lengths (after_item lengths x s) path))
    (reads_past_end (after_item lengths x s) path) none' in
    let behind = stores-behind lengths s x path h in
    let all = sym (stores-front lengths s x path) in
    three_none (list_any is_outside (stores_of lengths s (x ∷ path))) (some_meet (stores_of lengths s (x ∷ path))) (reads_past_end s (x ∷ path))
    (subst (λ (l : List Stored). list_any is_outside l ≡ false) all
    (any-append is_outside (stores_of lengths s (x ∷ [])) (stores_of lengths s path) one.0 (subst (λ (l : List Stored). list_any is_outside l ≡ false) behind others.0)))
    (subst (λ (l : List Stored). some_meet l ≡ false) all
    (meet-append (stores_of lengths s (x ∷ [])) (stores_of lengths s path) (apart-behind lengths s x path h) one.1 (subst (λ (l : List Stored). some_meet l ≡ false) behind others.1)))
    (past-behind lengths s x path one.2 others.2)
