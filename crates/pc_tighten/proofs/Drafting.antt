-- Rows in two parts, and what is counted and looked for in them.
use Rattle.std.proofs.Common.{◌≡◌, ℕ, Bool, true, false, List, [], ◌∷◌, ◌++◌, ◌+◌, length, length-append, Some, inl, inr, refl, sym, ◌∙◌, ap, subst, arith}
use Rattle.std.specs.Prelude.{◌||◌, map, slice_get}
use Rattle.std.specs.List.{count_by, list_any}
use Rattle.std.proofs.lemmas.List.Folds.{list_any-append}
use Rattle.pc_word.specs.declared.item.Item.{Item}
use Rattle.pc_word.specs.declared.item.Limits.{Limits}
use Rattle.pc_word.proofs.Lists.{count_both}
use Rattle.pc_word.specs.Row.{Then, items_of, leaves_of}
use Rattle.pc_machine.specs.MachineCode.{CodeRow}
use Rattle.pc_tighten.specs.Compact.{comes_after, paths_to}
use Rattle.pc_tighten.specs.Moves.{below, with_item}
use Rattle.pc_tighten.specs.models.Drafts.{comes_after_path, held_at, FirstStay}
use Rattle.pc_tighten.specs.declared.draft.Draft.{Draft}
use Rattle.pc_tighten.proofs.Moves.{same_or_apart}

-- ---- items above a row

pub below_append : (xs ys : List Item) (row : CodeRow) → below (xs ++ ys) row ≡ below xs (below ys row)
below_append [] ys row = refl
below_append (x ∷ xs) ys row = ap (λ (r : CodeRow). Then x r) (below_append xs ys row)

pub with_item_below : (t : ℕ) (x : Item) (xs : List Item) (row : CodeRow) → with_item t x (below xs row) ≡ below xs (with_item t x row)
with_item_below t x [] row = refl
with_item_below t x (y ∷ xs) row = ap (λ (r : CodeRow). Then y r) (with_item_below t x xs row)

-- ---- paths

or_more_right : (a b c : Bool) → ((a || b) || c) ≡ (a || (b || c))
or_more_right true b c = refl
or_more_right false b c = refl

-- an item more on each path
pub comes_after_one_more : (x y : Item) (above : Bool) (paths : List (List Item))
    → list_any (λ path. above || list_any (comes_after x) path) (map (λ path. y ∷ path) paths) ≡ list_any (λ path. (above || comes_after x y) || list_any (comes_after x) path) paths
comes_after_one_more x y above [] = refl
comes_after_one_more x y above (path ∷ paths) =
    ap (λ (b : Bool). b || list_any (λ p. above || list_any (comes_after x) p) (map (λ path. y ∷ path) paths)) (sym (or_more_right above (comes_after x y) (list_any (comes_after x) path)))
    ∙ ap (λ (b : Bool). ((above || comes_after x y) || list_any (comes_after x) path) || b) (comes_after_one_more x y above paths)

-- and two sides
pub comes_after_sides : (x : Item) (above : Bool) (paths more : List (List Item))
    → list_any (λ path. above || list_any (comes_after x) path) (paths ++ more)
    ≡ (list_any (λ path. above || list_any (comes_after x) path) paths || list_any (λ path. above || list_any (comes_after x) path) more)
comes_after_sides x above paths more = list_any-append (λ path. above || list_any (comes_after x) path) paths more

-- below an item
pub comes_after_below_item : (x y : Item) (above passed result : Bool) (t : ℕ) (next : CodeRow) → passed ≡ (above || comes_after x y)
    → result ≡ list_any (λ path. passed || list_any (comes_after x) path) (paths_to t next)
    → result ≡ list_any (λ path. above || list_any (comes_after x) path) (paths_to t (Then y next))
comes_after_below_item x y above passed result t next e h =
    h ∙ ap (λ (b : Bool). list_any (λ path. b || list_any (comes_after x) path) (paths_to t next)) e ∙ sym (comes_after_one_more x y above (paths_to t next))

-- below several items
comes_after_items : (x : Item) (above : Bool) (xs : List Item) (t : ℕ) (row : CodeRow)
    → list_any (λ path. above || list_any (comes_after x) path) (paths_to t (below xs row))
    ≡ list_any (λ path. (above || list_any (comes_after x) xs) || list_any (comes_after x) path) (paths_to t row)
comes_after_items x above [] t row =
    ap (λ (b : Bool). list_any (λ path. b || list_any (comes_after x) path) (paths_to t row)) (sym (or_none above))
  where
    or_none : (a : Bool) → (a || false) ≡ a
    or_none true = refl
    or_none false = refl
comes_after_items x above (y ∷ xs) t row =
    comes_after_one_more x y above (paths_to t (below xs row))
    ∙ comes_after_items x (above || comes_after x y) xs t row
    ∙ ap (λ (b : Bool). list_any (λ path. b || list_any (comes_after x) path) (paths_to t row)) (or_more_right above (comes_after x y) (list_any (comes_after x) xs))

pub after_path_below : (x : Item) (xs : List Item) (t : ℕ) (row : CodeRow)
    → comes_after_path x t (below xs row) ≡ list_any (λ path. list_any (comes_after x) xs || list_any (comes_after x) path) (paths_to t row)
after_path_below x xs t row = comes_after_items x false xs t row

-- ---- items

pub any_of_three : (p : Item → Bool) (xs ys zs : List Item) → list_any p (xs ++ (ys ++ zs)) ≡ (list_any p xs || (list_any p ys || list_any p zs))
any_of_three p xs ys zs = list_any-append p xs (ys ++ zs) ∙ ap (λ (b : Bool). list_any p xs || b) (list_any-append p ys zs)

-- ---- counts

pub items_below : (xs : List Item) (row : CodeRow) → items_of (below xs row) ≡ xs ++ items_of row
items_below [] row = refl
items_below (x ∷ xs) row = ap (λ (l : List Item). x ∷ l) (items_below xs row)

pub length_below : (xs : List Item) (row : CodeRow) → length (items_of (below xs row)) ≡ length xs + length (items_of row)
length_below xs row = ap length (items_below xs row) ∙ length-append xs (items_of row)

pub count_below : (p : Item → Bool) (xs : List Item) (row : CodeRow) → count_by p (items_of (below xs row)) ≡ count_by p xs + count_by p (items_of row)
count_below p xs row = ap (count_by p) (items_below xs row) ∙ count_both p xs (items_of row)

pub ruleset path_laws = (comes_after_one_more, comes_after_sides, after_path_below)

pub ruleset rows_below = (below_append)

pub ruleset put_laws = (below_append, with_item_below)

pub ruleset counts_below = (length_below, count_below)

pub ruleset others_laws = (any_of_three)

-- ---- items that stay

pub first_stay_more : (limits : Limits) (above : Draft) (t : ℕ) (under : Draft) (n : ℕ) (x : Item) → FirstStay limits above t under n
    → slice_get under.items.items n ≡ Some x → held_at limits above t under n x ≡ true → FirstStay limits above t under (n + 1)
first_stay_more limits above t under n x first at held i y low there = elim (same_or_apart i n) [
  | inl here ↦
      let is = ap (λ (k : ℕ). slice_get under.items.items k) here in
      let same : x ≡ y = (cc) in
      subst (λ (k : ℕ). held_at limits above t under k y ≡ true) (sym here) (subst (λ (z : Item). held_at limits above t under n z ≡ true) same held)
  | inr apart ↦ first i y (omega arith) there
]

-- ---- leaves

pub leaves_below : (xs : List Item) (row : CodeRow) → leaves_of (below xs row) ≡ leaves_of row
leaves_below [] row = refl
leaves_below (x ∷ xs) row = leaves_below xs row

pub ruleset leaves_laws = (leaves_below)
