-- Rows with an item more at the end of a path, or without an item that stands before the first test.
use Rattle.std.proofs.Common.{◌≡◌, ℕ, zero, suc, ◌+◌, ◌≤◌, Bool, true, false, cond, List, [], ◌∷◌, ◌++◌, Option, Some, None, refl, sym, ◌∙◌, ap, arith}
use Rattle.std.specs.Prelude.{ℤ, if◌then◌else◌, ◌≢◌, ◌||◌, nat_eq, slice_get, slice_set}
use Rattle.std.specs.List.{AllByRecursion, list_any, count_by, filter_map, IsDistinct, cons_option}
use Rattle.std.proofs.lemmas.Bool.Decides.{nat_tests}
use Rattle.std.proofs.lemmas.List.Folds.{list_any-append}
use Rattle.pc_word.specs.declared.item.Item.{Item}
use Rattle.pc_word.specs.Word.{holds}
use Rattle.pc_machine.specs.declared.tree.Leaf.{Leaf}
use Rattle.pc_machine.specs.declared.tree.Leaf.TheVariants.{Goto, Stop, Trap}
use Rattle.pc_machine.specs.MachineCode.{CodeRow, is_goto}
use Rattle.pc_word.specs.Row.{Then, Either, At_leaf, path_of, leaf_of, items_of, tests_of, leaves_of}
use Rattle.pc_word.specs.State.{State}
use Rattle.pc_word.specs.Items.{operand_value, dest_of, is_effect}
use Rattle.pc_word.specs.Commit.{names_after}
use Rattle.pc_word.proofs.Lists.{all_front, all_back, all_imply, all_of_map, count_more, count_both}
use Rattle.pc_machine.proofs.Paths.{leaf_taken}
use Rattle.pc_tighten.specs.Compact.{is_dest, writes_both, paths_to}
use Rattle.pc_tighten.specs.Moves.{below, with_item}
use Rattle.pc_tighten.proofs.Lists.{none_of}
use Rattle.pc_tighten.proofs.Alike.{operand_kept}

-- ---- items above a row

pub below-path : (names : ℕ → ℤ) (xs : List Item) (row : CodeRow) → path_of names (below xs row) ≡ xs ++ path_of names row
below-path names [] row = refl
below-path names (x ∷ xs) row = ap (λ (l : List Item). x ∷ l) (below-path names xs row)

pub below-leaf : (names : ℕ → ℤ) (xs : List Item) (row : CodeRow) → leaf_of names (below xs row) ≡ leaf_of names row
below-leaf names [] row = refl
below-leaf names (x ∷ xs) row = below-leaf names xs row

pub below-leaves : (xs : List Item) (row : CodeRow) → leaves_of (below xs row) ≡ leaves_of row
below-leaves [] row = refl
below-leaves (x ∷ xs) row = below-leaves xs row

pub below-items : (xs : List Item) (row : CodeRow) → items_of (below xs row) ≡ xs ++ items_of row
below-items [] row = refl
below-items (x ∷ xs) row = ap (λ (l : List Item). x ∷ l) (below-items xs row)

-- ---- an item at the end of a path

module _ (names : ℕ → ℤ) (t : ℕ) (x : Item) where
  pub with_item-leaf : (row : CodeRow) → leaf_of names (with_item t x row) ≡ leaf_of names row
  with_item-leaf (Then item rest) = with_item-leaf rest
  with_item-leaf (Either on on_yes on_no) =
      elim (holds (operand_value names on)) as (λ b. (if b then leaf_of names (with_item t x on_yes) else leaf_of names (with_item t x on_no)) ≡
      (if b then leaf_of names on_yes else leaf_of names on_no)) [
        | true ↦ with_item-leaf on_yes
        | false ↦ with_item-leaf on_no
      ]
  with_item-leaf (At_leaf leaf) =
      elim (is_goto t leaf) as (λ b. leaf_of names (if b then Then x (At_leaf leaf) else At_leaf leaf) ≡ leaf) [ true ↦ refl | false ↦ refl ]

  pub with_item-path : (row : CodeRow) → is_goto t (leaf_of names row) ≡ true → path_of names (with_item t x row) ≡ path_of names row ++ (x ∷ [])
  with_item-path (Then item rest) h = ap (λ (l : List Item). item ∷ l) (with_item-path rest h)
  with_item-path (Either on on_yes on_no) h =
      (elim (holds (operand_value names on)) as (λ b. is_goto t (if b then leaf_of names on_yes else leaf_of names on_no) ≡ true
      → (if b then path_of names (with_item t x on_yes) else path_of names (with_item t x on_no)) ≡ (if b then path_of names on_yes else path_of names on_no) ++ (x ∷ [])) [
        | true ↦ with_item-path on_yes
        | false ↦ with_item-path on_no
      ]) h
  with_item-path (At_leaf leaf) h =
      (elim (is_goto t leaf) as (λ b. b ≡ true → path_of names (if b then Then x (At_leaf leaf) else At_leaf leaf) ≡ x ∷ []) [ true ↦ λ e. refl | false ↦ λ e. absurd (cc) ]) h

  pub with_item-other_path : (row : CodeRow) → is_goto t (leaf_of names row) ≡ false → path_of names (with_item t x row) ≡ path_of names row
  with_item-other_path (Then item rest) h = ap (λ (l : List Item). item ∷ l) (with_item-other_path rest h)
  with_item-other_path (Either on on_yes on_no) h =
      (elim (holds (operand_value names on)) as (λ b. is_goto t (if b then leaf_of names on_yes else leaf_of names on_no) ≡ false
      → (if b then path_of names (with_item t x on_yes) else path_of names (with_item t x on_no)) ≡ (if b then path_of names on_yes else path_of names on_no)) [
        | true ↦ with_item-other_path on_yes
        | false ↦ with_item-other_path on_no
      ]) h
  with_item-other_path (At_leaf leaf) h =
      (elim (is_goto t leaf) as (λ b. b ≡ false → path_of names (if b then Then x (At_leaf leaf) else At_leaf leaf) ≡ []) [ true ↦ λ e. absurd (cc) | false ↦ λ e. refl ]) h

-- ---- the paths to a row

-- what holds of each path to t holds of the one that is taken, if it leads there
pub path_taken_to : (names : ℕ → ℤ) (t : ℕ) (row : CodeRow) (P : List Item → Type 0)
    → AllByRecursion P (paths_to t row) → is_goto t (leaf_of names row) ≡ true → P (path_of names row)
path_taken_to names t (Then item rest) P all h = path_taken_to names t rest (λ path. P (item ∷ path)) (all_of_map P (λ path. item ∷ path) (paths_to t rest) all) h
path_taken_to names t (Either on on_yes on_no) P all h =
    (elim (holds (operand_value names on)) as (λ b. is_goto t (if b then leaf_of names on_yes else leaf_of names on_no) ≡ true → P (if b then path_of names on_yes else path_of names on_no)) [
      | true ↦ path_taken_to names t on_yes P (all_front P (paths_to t on_yes) (paths_to t on_no) all)
      | false ↦ path_taken_to names t on_no P (all_back P (paths_to t on_yes) (paths_to t on_no) all)
    ]) h
path_taken_to names t (At_leaf (Goto row)) P all h =
    (elim (nat_eq row t) as (λ b. b ≡ true → AllByRecursion P (if b then [] ∷ [] else []) → P []) [ true ↦ λ e k. k.0 | false ↦ λ e k. absurd (cc) ]) h all
path_taken_to names t (At_leaf Stop) P all h = absurd (cc)
path_taken_to names t (At_leaf (Trap kind line)) P all h = absurd (cc)

-- where a leaf leads to t there is such a path
pub some_path_to : (t : ℕ) (row : CodeRow) (P : List Item → Type 0) → AllByRecursion P (paths_to t row) → list_any (is_goto t) (leaves_of row) ≡ true → (path : List Item) × P path
some_path_to t (Then item rest) P all h =
    let found = some_path_to t rest (λ path. P (item ∷ path)) (all_of_map P (λ path. item ∷ path) (paths_to t rest) all) h in (item ∷ found.0, found.1)
some_path_to t (Either on on_yes on_no) P all h =
    let both = sym (list_any-append (is_goto t) (leaves_of on_yes) (leaves_of on_no)) ∙ h in
    (elim (list_any (is_goto t) (leaves_of on_yes)) as
    (λ b. list_any (is_goto t) (leaves_of on_yes) ≡ b → (b || list_any (is_goto t) (leaves_of on_no)) ≡ true → (path : List Item) × P path) [
      | true ↦ λ e k. some_path_to t on_yes P (all_front P (paths_to t on_yes) (paths_to t on_no) all) e
      | false ↦ λ e k. some_path_to t on_no P (all_back P (paths_to t on_yes) (paths_to t on_no) all) k
    ]) refl both
some_path_to t (At_leaf (Goto row)) P all h =
    (elim (nat_eq row t) as (λ b. (b || false) ≡ true → AllByRecursion P (if b then [] ∷ [] else []) → (path : List Item) × P path)
    [ true ↦ λ e k. ([], k.0) | false ↦ λ e k. absurd (cc) ]) h all
some_path_to t (At_leaf Stop) P all h = absurd (cc)
some_path_to t (At_leaf (Trap kind line)) P all h = absurd (cc)

-- a leaf that is taken is one of the leaves
pub other_leaf : (names : ℕ → ℤ) (t : ℕ) (row : CodeRow) → list_any (is_goto t) (leaves_of row) ≡ false → is_goto t (leaf_of names row) ≡ false
other_leaf names t row h = leaf_taken names row (λ leaf. is_goto t leaf ≡ false) (none_of (is_goto t) (leaves_of row) h)

-- ---- an item that no test reads

pub same_path : (lengths : List ℕ) (old : State) (x : Item) (row : CodeRow) → AllByRecursion (λ on. is_dest on (dest_of x) ≡ false) (tests_of row)
    → path_of (names_after lengths old (x ∷ [])) row ≡ path_of old.names row
same_path lengths old x (Then item rest) h = ap (λ (l : List Item). item ∷ l) (same_path lengths old x rest h)
same_path lengths old x (Either on on_yes on_no) h =
    let yes = same_path lengths old x on_yes (all_front (λ o. is_dest o (dest_of x) ≡ false) (tests_of on_yes) (tests_of on_no) h.1) in
    let no = same_path lengths old x on_no (all_back (λ o. is_dest o (dest_of x) ≡ false) (tests_of on_yes) (tests_of on_no) h.1) in
    ap (λ (v : ℤ). if holds v then path_of (names_after lengths old (x ∷ [])) on_yes else path_of (names_after lengths old (x ∷ [])) on_no) (operand_kept lengths old (x ∷ []) on (h.0, tt))
    ∙ ap (λ (l : List Item). if holds (operand_value old.names on) then l else path_of (names_after lengths old (x ∷ [])) on_no) yes
    ∙ ap (λ (l : List Item). if holds (operand_value old.names on) then path_of old.names on_yes else l) no
same_path lengths old x (At_leaf leaf) h = refl

pub same_leaf : (lengths : List ℕ) (old : State) (x : Item) (row : CodeRow) → AllByRecursion (λ on. is_dest on (dest_of x) ≡ false) (tests_of row)
    → leaf_of (names_after lengths old (x ∷ [])) row ≡ leaf_of old.names row
same_leaf lengths old x (Then item rest) h = same_leaf lengths old x rest h
same_leaf lengths old x (Either on on_yes on_no) h =
    let yes = same_leaf lengths old x on_yes (all_front (λ o. is_dest o (dest_of x) ≡ false) (tests_of on_yes) (tests_of on_no) h.1) in
    let no = same_leaf lengths old x on_no (all_back (λ o. is_dest o (dest_of x) ≡ false) (tests_of on_yes) (tests_of on_no) h.1) in
    ap (λ (v : ℤ). if holds v then leaf_of (names_after lengths old (x ∷ [])) on_yes else leaf_of (names_after lengths old (x ∷ [])) on_no) (operand_kept lengths old (x ∷ []) on (h.0, tt))
    ∙ ap (λ (l : Leaf). if holds (operand_value old.names on) then l else leaf_of (names_after lengths old (x ∷ [])) on_no) yes
    ∙ ap (λ (l : Leaf). if holds (operand_value old.names on) then leaf_of old.names on_yes else l) no
same_leaf lengths old x (At_leaf leaf) h = refl

-- ---- a row in place of another

pub set_here : (i : ℕ) (row other : CodeRow) (rows : List CodeRow) → slice_get rows i ≡ Some other → slice_get (slice_set rows i row) i ≡ Some row
set_here i row other [] e = absurd (cc)
set_here zero row other (r ∷ rows) e = refl
set_here (suc i) row other (r ∷ rows) e = set_here i row other rows e

pub set_elsewhere : (i j : ℕ) (row : CodeRow) (rows : List CodeRow) → j ≢ i → slice_get (slice_set rows i row) j ≡ slice_get rows j
set_elsewhere i j row [] apart = refl
set_elsewhere zero zero row (r ∷ rows) apart = absurd (apart refl)
set_elsewhere zero (suc j) row (r ∷ rows) apart = refl
set_elsewhere (suc i) zero row (r ∷ rows) apart = refl
set_elsewhere (suc i) (suc j) row (r ∷ rows) apart = set_elsewhere i j row rows (λ e. apart (ap suc e))

-- ---- a path on which no register is written twice, and at most one item is print, read or more

-- what holds of a register that is written, if any
abbrev pub OnDest : (ℕ → Type 0) → Option ℕ → Type 0
OnDest P None = Unit {0}
OnDest P (Some d) = P d

each_dest : (P : ℕ → Type 0) (items : List Item) → AllByRecursion P (filter_map dest_of items) → AllByRecursion (λ y. OnDest P (dest_of y)) items
each_dest P [] h = tt
each_dest P (y ∷ items) h = put (dest_of y) (λ k. each_dest P items k) h
  where
    put : (d : Option ℕ) → (AllByRecursion P (filter_map dest_of items) → AllByRecursion (λ y. OnDest P (dest_of y)) items)
        → AllByRecursion P (cons_option d (filter_map dest_of items)) → OnDest P d × AllByRecursion (λ y. OnDest P (dest_of y)) items
    put None next k = (tt, next k)
    put (Some d) next k = (k.0, next k.1)

apart_after : (x y : Option ℕ) → OnDest (λ d. OnDest (λ e. nat_eq d e ≡ false) y) x → writes_both y x ≡ false
apart_after None y h = refl
apart_after (Some d) None h = refl
apart_after (Some d) (Some e) h = grind (arith, nat_tests)

apart_before : (x y : Option ℕ) → OnDest (λ d. OnDest (λ e. nat_eq d e ≡ false) x) y → writes_both y x ≡ false
apart_before None y h = refl
apart_before (Some d) None h = refl
apart_before (Some d) (Some e) h = h

all_of_nothing : (items : List Item) → AllByRecursion (λ z. Unit {0}) items
all_of_nothing [] = tt
all_of_nothing (y ∷ items) = (tt, all_of_nothing items)

-- the registers of those after the first are others
first_dest : (y : Item) (items : List Item) → IsDistinct nat_eq (filter_map dest_of (y ∷ items))
    → AllByRecursion (λ z. OnDest (λ d. OnDest (λ e. nat_eq d e ≡ false) (dest_of z)) (dest_of y)) items
unfolding IsDistinct
first_dest y items h = put (dest_of y) h
  where
    put : (d : Option ℕ) → IsDistinct nat_eq (cons_option d (filter_map dest_of items)) → AllByRecursion (λ z. OnDest (λ e. OnDest (λ f. nat_eq e f ≡ false) (dest_of z)) d) items
    put None k = all_of_nothing items
    put (Some d) k = each_dest (λ e. nat_eq d e ≡ false) items k.0

pub later_dests : (y : Item) (items : List Item) → IsDistinct nat_eq (filter_map dest_of (y ∷ items)) → IsDistinct nat_eq (filter_map dest_of items)
unfolding IsDistinct
later_dests y items h = put (dest_of y) h
  where
    put : (d : Option ℕ) → IsDistinct nat_eq (cons_option d (filter_map dest_of items)) → IsDistinct nat_eq (filter_map dest_of items)
    put None k = k
    put (Some d) k = k.1

pub other_dests : (xs : List Item) (x : Item) (ys : List Item) → IsDistinct nat_eq (filter_map dest_of (xs ++ (x ∷ ys)))
    → AllByRecursion (λ y. writes_both (dest_of y) (dest_of x) ≡ false) (xs ++ ys)
other_dests [] x ys h = all_imply (λ z. OnDest (λ d. OnDest (λ e. nat_eq d e ≡ false) (dest_of z)) (dest_of x)) (λ y. writes_both (dest_of y) (dest_of x) ≡ false) ys
    (λ z k. apart_after (dest_of x) (dest_of z) k) (first_dest x ys h)
other_dests (y ∷ xs) x ys h = (
  apart_before (dest_of x) (dest_of y) (all_back (λ z. OnDest (λ d. OnDest (λ e. nat_eq d e ≡ false) (dest_of z)) (dest_of y)) xs (x ∷ ys) (first_dest y (xs ++ (x ∷ ys)) h)).0,
  other_dests xs x ys (later_dests y (xs ++ (x ∷ ys)) h),
)

count_none : (items : List Item) → count_by is_effect items ≡ 0 → AllByRecursion (λ y. is_effect y ≡ false) items
count_none [] h = tt
count_none (y ∷ items) h =
    let more = count_more is_effect y items in
    (elim (is_effect y) as (λ b. count_by is_effect (y ∷ items) ≡ cond b 1 0 + count_by is_effect items → (b ≡ false) × AllByRecursion (λ y. is_effect y ≡ false) items) [
      | true ↦ λ e. absurd (omega arith)
      | false ↦ λ e. (refl, count_none items (omega arith))
    ]) more

pub other_effects : (xs : List Item) (x : Item) (ys : List Item) → count_by is_effect (xs ++ (x ∷ ys)) ≤ 1 → is_effect x ≡ true → AllByRecursion (λ y. is_effect y ≡ false) (xs ++ ys)
other_effects xs x ys h e =
    let a = count_both is_effect xs (x ∷ ys) in
    let b = count_more is_effect x ys in
    let one : ◌≡◌ {A = ℕ} (cond (is_effect x) 1 0) 1 = ap (λ (b : Bool). cond {A = ℕ} b 1 0) e in
    let c = count_both is_effect xs ys in
    count_none (xs ++ ys) (omega arith)
