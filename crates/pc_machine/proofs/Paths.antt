-- The path that is taken through a row is one of its paths, and the leaf one of its leaves.
use Rattle.std.proofs.Common.{◌≡◌, ℕ, ◌<◌, ◌≤◌, Bool, true, false, List, ◌∷◌, ◌++◌, length, Some, arith, length-append, subst}
use Rattle.std.specs.Prelude.{ℤ, if◌then◌else◌, slice_get}
use Rattle.std.specs.List.{AllByRecursion, count_by}
use Rattle.pc_word.specs.declared.item.Item.{Item}
use Rattle.pc_word.specs.Word.{holds}
use Rattle.pc_machine.specs.declared.tree.Leaf.TheVariants.{Goto}
use Rattle.pc_machine.specs.MachineCode.{CodeRow, RowCode}
use Rattle.pc_word.specs.Row.{Row, Then, Either, At_leaf, path_of, leaf_of, items_of, leaves_of, paths_of}
use Rattle.pc_word.specs.Items.{operand_value}
use Rattle.pc_machine.specs.WellFormed.{IsItem, IsLeaf, IsPath, IsRow, WellFormed}
use Rattle.pc_word.proofs.Lists.{all_front, all_back, all_of_map, all_at, count_more, count_both}

-- what holds of each path holds of the one that is taken
pub path_taken : {L : Type 0} (names : ℕ → ℤ) (row : Row L) (P : List Item → Type 0) → AllByRecursion P (paths_of row) → P (path_of names row)
path_taken names (Then item rest) P all =
    path_taken names rest (λ path. P (item ∷ path)) (all_of_map P (λ path. item ∷ path) (paths_of rest) all)
path_taken names (Either on on_yes on_no) P all =
    elim (holds (operand_value names on)) as (λ b. P (if b then path_of names on_yes else path_of names on_no)) [
      | true ↦ path_taken names on_yes P (all_front P (paths_of on_yes) (paths_of on_no) all)
      | false ↦ path_taken names on_no P (all_back P (paths_of on_yes) (paths_of on_no) all)
    ]
path_taken names (At_leaf leaf) P all = all.0

-- what holds of each leaf holds of the one that is reached
pub leaf_taken : {L : Type 0} (names : ℕ → ℤ) (row : Row L) (P : L → Type 0) → AllByRecursion P (leaves_of row) → P (leaf_of names row)
leaf_taken names (Then item rest) P all = leaf_taken names rest P all
leaf_taken names (Either on on_yes on_no) P all =
    elim (holds (operand_value names on)) as (λ b. P (if b then leaf_of names on_yes else leaf_of names on_no)) [
      | true ↦ leaf_taken names on_yes P (all_front P (leaves_of on_yes) (leaves_of on_no) all)
      | false ↦ leaf_taken names on_no P (all_back P (leaves_of on_yes) (leaves_of on_no) all)
    ]
leaf_taken names (At_leaf leaf) P all = all.0

-- what holds of each item of a row holds of each on the path that is taken
pub items_taken : {L : Type 0} (names : ℕ → ℤ) (row : Row L) (P : Item → Type 0) → AllByRecursion P (items_of row) → AllByRecursion P (path_of names row)
items_taken names (Then item rest) P all = (all.0, items_taken names rest P all.1)
items_taken names (Either on on_yes on_no) P all =
    elim (holds (operand_value names on)) as (λ b. AllByRecursion P (if b then path_of names on_yes else path_of names on_no)) [
      | true ↦ items_taken names on_yes P (all_front P (items_of on_yes) (items_of on_no) all)
      | false ↦ items_taken names on_no P (all_back P (items_of on_yes) (items_of on_no) all)
    ]
items_taken names (At_leaf leaf) P all = tt

-- the path has no more items than the row
pub path-length : {L : Type 0} (names : ℕ → ℤ) (row : Row L) → length (path_of names row) ≤ length (items_of row)
path-length names (Then item rest) = let h = path-length names rest in omega arith
path-length names (Either on on_yes on_no) =
    let both = length-append (items_of on_yes) (items_of on_no) in
    elim (holds (operand_value names on)) as (λ b. length (if b then path_of names on_yes else path_of names on_no) ≤ length (items_of on_yes ++ items_of on_no)) [
      | true ↦ (let h = path-length names on_yes in omega (arith, both))
      | false ↦ (let h = path-length names on_no in omega (arith, both))
    ]
path-length names (At_leaf leaf) = omega arith

-- nor more of any kind
pub path-count : {L : Type 0} (names : ℕ → ℤ) (row : Row L) (p : Item → Bool) → count_by p (path_of names row) ≤ count_by p (items_of row)
path-count names (Then item rest) p =
    let h = path-count names rest p in
    omega (arith, count_more p item (path_of names rest), count_more p item (items_of rest))
path-count names (Either on on_yes on_no) p =
    let both = count_both p (items_of on_yes) (items_of on_no) in
    elim (holds (operand_value names on)) as (λ b. count_by p (if b then path_of names on_yes else path_of names on_no) ≤ count_by p (items_of on_yes ++ items_of on_no)) [
      | true ↦ (let h = path-count names on_yes p in omega (arith, both))
      | false ↦ (let h = path-count names on_no p in omega (arith, both))
    ]
path-count names (At_leaf leaf) p = omega arith

-- ---- in a well-formed code

-- the row that a row leads to is there
pub next_row_stands : (code : RowCode) → WellFormed code → (names : ℕ → ℤ) (i target : ℕ) (row : CodeRow) → slice_get code.rows i ≡ Some row
    → leaf_of names row ≡ Goto target → target < length code.rows
next_row_stands code well names i target row at leads =
    let is = all_at (IsRow code.limits code.registers (length code.arrays) (length code.rows)) code.rows i row well.rows at in
    subst (IsLeaf (length code.rows)) leads (leaf_taken names row (IsLeaf (length code.rows)) is.leaves)

-- on the path that is taken no register is written twice, and at most one item is a print, read or more
pub taken_is_path : (code : RowCode) → WellFormed code → (names : ℕ → ℤ) (i : ℕ) (row : CodeRow) → slice_get code.rows i ≡ Some row → IsPath (path_of names row)
taken_is_path code well names i row at =
    let is = all_at (IsRow code.limits code.registers (length code.arrays) (length code.rows)) code.rows i row well.rows at in
    path_taken names row IsPath is.paths

-- and its registers and arrays are there
pub taken_items_stand : (code : RowCode) → WellFormed code → (names : ℕ → ℤ) (i : ℕ) (row : CodeRow) → slice_get code.rows i ≡ Some row
    → AllByRecursion (IsItem code.registers (length code.arrays)) (path_of names row)
taken_items_stand code well names i row at =
    let is = all_at (IsRow code.limits code.registers (length code.arrays) (length code.rows)) code.rows i row well.rows at in
    items_taken names row (IsItem code.registers (length code.arrays)) is.items
