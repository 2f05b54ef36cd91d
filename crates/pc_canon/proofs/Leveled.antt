-- Levels tell the places of names.
use Rattle.std.proofs.Common.{◌≡◌, ◌≢◌, ℕ, zero, suc, ◌+◌, ◌-◌, ◌<◌, ◌≤◌, List, [], ◌∷◌, ◌++◌, length, drop, refl, sym, ◌∙◌, ap, subst, arith}
use Rattle.std.specs.Prelude.{pos, Bool, true, false, if◌then◌else◌, nat_eq, replicate, Option, Some, None, slice_index, slice_index_or, slice_set}
use Rattle.std.specs.List.{AllByRecursion}
use Rattle.std.proofs.lemmas.Bool.{eqb-true, eq-eqb}
use Rattle.pc_word.specs.declared.item.Item.{Item}
use Rattle.pc_word.specs.declared.item.Item.TheVariants.{Bin, Copy, Load, Store, Print, Read, More}
use Rattle.pc_word.specs.declared.item.Operand.{Operand}
use Rattle.pc_word.specs.declared.item.Operand.TheVariants.{Name, Lit}
use Rattle.pc_word.specs.Items.{dest_of}
use Rattle.pc_word.proofs.Lists.{set_length, index_set_same, index_set_other}
use Rattle.pc_window.specs.declared.home.Home.{Home}
use Rattle.pc_window.specs.Tree.{Tree, Pending, Undecided, Exit, Stop_exit, Trap_exit}
use Rattle.pc_window.specs.Names.{named}
use Rattle.pc_window.specs.Opening.{OperandBelow, ItemBelow, StubBelow, TreeBelow}
use Rattle.pc_window.proofs.Walked.{dest_below}
use Rattle.pc_canon.specs.Canonical.{place_of, placed_item, placed_homes, canonical_tree}
use Rattle.pc_canon.specs.Key.{list_numbers, operand_numbers, item_numbers, home_numbers, tree_numbers}
use Rattle.pc_canon.specs.models.Written.{place_at, leveled, deeper, levels_of, written}
use Rattle.pc_word.specs.Naming.{map_name}

-- these are the levels of the names of a list
pub record AreLevels (levels names : List ℕ) : Type 0 where
  pub within : (x : ℕ) → slice_index levels x ≤ length names
  pub places : (x : ℕ) → x < length levels → place_of names x ≡ length names - slice_index levels x

-- ---- one name more

index_set_out : (levels : List ℕ) (dest level x : ℕ) → length levels ≤ dest → slice_set levels dest level ≡ levels
index_set_out [] dest level x h = refl
index_set_out (l ∷ levels) zero level x h = absurd (omega (arith, h))
index_set_out (l ∷ levels) (suc dest) level x h = ap (λ (list : List ℕ). l ∷ list) (index_set_out levels dest level x (omega (arith, h)))

suc_minus : (m n : ℕ) → n ≤ m → suc (m - n) ≡ suc m - n
suc_minus m n h = omega (arith, h)

pub with_level : (levels names : List ℕ) (dest level : ℕ) → AreLevels levels names → dest < length levels → level ≡ length names + 1
    → AreLevels (slice_set levels dest level) (dest ∷ names)
with_level levels names dest level h there is = record {
  within = λ x. at_most x (nat_eq dest x) refl;
  places = λ x below. place x (nat_eq dest x) refl (subst (λ (n : ℕ). x < n) (set_length levels dest level) below);
}
  where
    apart : (x : ℕ) → nat_eq dest x ≡ false → dest ≢ x
    apart x e same = let k : nat_eq dest x ≡ true = eq-eqb dest x same in cc

    at_most : (x : ℕ) (b : Bool) → nat_eq dest x ≡ b → slice_index (slice_set levels dest level) x ≤ suc (length names)
    at_most x true e =
        let here : slice_index (slice_set levels dest level) x ≡ level = ap (λ (y : ℕ). slice_index (slice_set levels dest level) y) (sym (eqb-true dest x e))
        ∙ index_set_same levels dest level there in
        omega (arith, here, is)
    at_most x false e =
        let other = index_set_other levels dest x level (apart x e) in
        let le = h.within x in
        omega (arith, other, le)

    place : (x : ℕ) (b : Bool) → nat_eq dest x ≡ b → x < length levels → (if b then 0 else suc (place_of names x)) ≡ suc (length names) - slice_index (slice_set levels dest level) x
    place x true e below =
        let here : slice_index (slice_set levels dest level) x ≡ level = ap (λ (y : ℕ). slice_index (slice_set levels dest level) y) (sym (eqb-true dest x e))
        ∙ index_set_same levels dest level there in
        omega (arith, here, is)
    place x false e below =
        let other = index_set_other levels dest x level (apart x e) in
        ap suc (h.places x below) ∙ suc_minus (length names) (slice_index levels x) (h.within x) ∙ ap (λ (n : ℕ). suc (length names) - n) (sym other)

-- the place does not compute under a test of another form, so it is asked as the definition has it
pub no_levels : (n : ℕ) → AreLevels (replicate n 0) []
no_levels n = record {
  within = λ x. let none = none_there n x in omega (arith, none);
  places = λ x below. sym (ap (λ (m : ℕ). 0 - m) (none_there n x));
}
  where
    none_there : (n x : ℕ) → slice_index (replicate n 0) x ≡ 0
    none_there zero x = refl
    none_there (suc n) zero = refl
    none_there (suc n) (suc x) = none_there n x

replicate-length : (x n : ℕ) → length (replicate n x) ≡ n
replicate-length x zero = refl
replicate-length x (suc n) = ap suc (replicate-length x n)

levels-length : (names levels : List ℕ) → length (levels_of names levels) ≡ length levels
levels-length [] levels = refl
levels-length (x ∷ xs) levels = set_length (levels_of xs levels) x (length xs + 1) ∙ levels-length xs levels

pub levels_are : (n : ℕ) (names : List ℕ) → AllByRecursion (λ name. name < n) names → AreLevels (levels_of names (replicate n 0)) names
levels_are n [] h = no_levels n
levels_are n (x ∷ xs) h =
    let long = levels-length xs (replicate n 0) ∙ replicate-length 0 n in
    with_level (levels_of xs (replicate n 0)) xs x (length xs + 1) (levels_are n xs h.1) (subst (λ (m : ℕ). x < m) (sym long) h.0) refl

pub levels-long : (n : ℕ) (names : List ℕ) → length (levels_of names (replicate n 0)) ≡ n
levels-long n names = levels-length names (replicate n 0) ∙ replicate-length 0 n

-- ---- what is written by levels is written by places

module _ (levels names : List ℕ) (are : AreLevels levels names) where
  operand-written : (o : Operand) → OperandBelow (length levels) o → map_name (place_at levels (length names)) o ≡ map_name (place_of names) o
  operand-written (Name x) below = ap (λ (n : ℕ). Name n) (sym (are.places x below))
  operand-written (Lit value) below = refl

  item-written : (item : Item) → ItemBelow (length levels) item → placed_item (place_at levels (length names)) item ≡ placed_item (place_of names) item
  item-written (Bin op dest left right) below = λ i. Bin op 0 (operand-written left below.1 i) (operand-written right below.2 i)
  item-written (Copy dest from) below = ap (λ (o : Operand). Copy 0 o) (operand-written from below.1)
  item-written (Load dest array index) below = ap (λ (o : Operand). Load 0 array o) (operand-written index below.1)
  item-written (Store array index value) below = λ i. Store array (operand-written index below.0 i) (operand-written value below.1 i)
  item-written (Print value) below = ap (λ (o : Operand). Print o) (operand-written value below)
  item-written (Read dest) below = refl
  item-written (More dest) below = refl

  homes-written : (homes : List Home) → StubBelow (length levels) homes → placed_homes (place_at levels (length names)) homes ≡ placed_homes (place_of names) homes
  homes-written [] below = refl
  homes-written (home ∷ homes) below = λ i. record { variable = home.variable; value = operand-written home.value below.0 i } ∷ homes-written homes below.1 i

pub tree-written : (first : ℕ) (levels names : List ℕ) (depth : ℕ) (tree : Tree) → AreLevels levels names → depth ≡ length names → TreeBelow (length levels) tree
    → written first depth levels tree ≡ tree_numbers (canonical_tree first names tree)
tree-written first levels names depth (Pending tag origin item rest) are deep below =
    (λ i. pos 0 ∷ pos (tag - first) ∷ pos origin ∷ (item_numbers (items i) ++ under (dest_of item) refl
    (tree-written first levels names depth rest are deep below.1)
    (λ dest are deep below. tree-written first (slice_set levels dest (depth + 1)) (dest ∷ names) (depth + 1) rest are deep below) i))
  where
    items : placed_item (place_at levels depth) item ≡ placed_item (place_of names) item
    items = ap (λ (n : ℕ). placed_item (place_at levels n) item) deep ∙ item-written levels names are item below.0

    next : length names + 1 ≡ suc (length names)
    next = omega arith

    under : (d : Option ℕ) → dest_of item ≡ d
        → written first depth levels rest ≡ tree_numbers (canonical_tree first names rest)
        → ((dest : ℕ) → AreLevels (slice_set levels dest (depth + 1)) (dest ∷ names) → depth + 1 ≡ suc (length names)
        → TreeBelow (length (slice_set levels dest (depth + 1))) rest
        → written first (depth + 1) (slice_set levels dest (depth + 1)) rest ≡ tree_numbers (canonical_tree first (dest ∷ names) rest))
        → written first (deeper d depth) (leveled d depth levels) rest ≡ tree_numbers (canonical_tree first (named d names) rest)
    under None e quiet defines = quiet
    under (Some dest) e quiet defines =
        defines dest
        (with_level levels names dest (depth + 1) are (dest_below (length levels) item dest below.0 e) (ap (λ (n : ℕ). n + 1) deep))
        (ap (λ (n : ℕ). n + 1) deep ∙ next)
        (subst (λ (n : ℕ). TreeBelow n rest) (sym (set_length levels dest (depth + 1))) below.1)
tree-written first levels names depth (Undecided tag origin on one other) are deep below =
    (λ i. pos 1 ∷ pos (tag - first) ∷ pos origin ∷ (operand_numbers (test i) ++
    (tree-written first levels names depth one are deep below.1 i ++ tree-written first levels names depth other are deep below.2 i)))
  where
    test : map_name (place_at levels depth) on ≡ map_name (place_of names) on
    test = ap (λ (n : ℕ). map_name (place_at levels n) on) deep ∙ operand-written levels names are on below.0
tree-written first levels names depth (Exit region tag homes) are deep below =
    ap (λ (list : List Home). pos 2 ∷ pos region ∷ pos (tag - first) ∷ list_numbers home_numbers list)
    (ap (λ (n : ℕ). placed_homes (place_at levels n) homes) deep ∙ homes-written levels names are homes below)
tree-written first levels names depth Stop_exit are deep below = refl
tree-written first levels names depth (Trap_exit kind line) are deep below = refl

-- ---- the levels of a list, one at a time

dropped : (xs : List ℕ) (at : ℕ) → at < length xs → drop at xs ≡ slice_index_or xs at 0 ∷ drop (at + 1) xs
dropped [] at there = absurd (omega (arith, there))
dropped (y ∷ ys) zero there = refl
dropped (y ∷ ys) (suc at) there =
    let next : suc at + 1 ≡ suc (at + 1) = omega arith in
    dropped ys at (omega (arith, there)) ∙ ap (λ (n : ℕ). slice_index_or ys at 0 ∷ drop n (y ∷ ys)) (sym next)

drop-length : (xs : List ℕ) (at : ℕ) → length (drop at xs) ≡ length xs - at
drop-length [] zero = refl
drop-length [] (suc at) = omega arith
drop-length (x ∷ xs) zero = omega arith
drop-length (x ∷ xs) (suc at) = let h = drop-length xs at in omega (arith, h)

pub one_leveled : (names initial levels : List ℕ) (at : ℕ) → at < length names → levels ≡ levels_of (drop (at + 1) names) initial
    → slice_set levels (slice_index_or names at 0) (length names - at) ≡ levels_of (drop at names) initial
one_leveled names initial levels at there are =
    let long = drop-length names (at + 1) in
    let level : length names - at ≡ length (drop (at + 1) names) + 1 = omega (arith, there, long) in
    (λ i. slice_set (are i) (slice_index_or names at 0) (level i)) ∙ ap (λ (list : List ℕ). levels_of list initial) (sym (dropped names at there))

pub none_leveled : (names initial : List ℕ) (at : ℕ) → length names ≤ at → levels_of (drop at names) initial ≡ initial
none_leveled [] initial zero h = refl
none_leveled [] initial (suc at) h = refl
none_leveled (x ∷ xs) initial zero h = absurd (omega (arith, h))
none_leveled (x ∷ xs) initial (suc at) h = none_leveled xs initial at (omega (arith, h))

pub name_below : (n : ℕ) (names : List ℕ) (at : ℕ) → at < length names → AllByRecursion (λ name. name < n) names → slice_index_or names at 0 < n
name_below n [] at there h = absurd (omega (arith, there))
name_below n (x ∷ xs) zero there h = h.0
name_below n (x ∷ xs) (suc at) there h = name_below n xs at (omega (arith, there)) h.1

pub ruleset levels = (one_leveled, none_leveled, name_below)
