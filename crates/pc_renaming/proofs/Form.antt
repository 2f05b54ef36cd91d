-- A row that does a well-formed row is well formed.
use Rattle.std.proofs.Common.{◌≡◌, ℕ, suc, ◌+◌, ◌<◌, ◌≤◌, Bool, false, nat_eq, cond, List, [], ◌∷◌, length, Option, Some, refl, sym, ◌∙◌, ap, subst, arith, length-append}
use Rattle.std.specs.Prelude.{ℤ, slice_get}
use Rattle.std.specs.List.{AllByRecursion, count_by, filter_map, cons_option, IsDistinct}
use Rattle.pc_word.specs.declared.item.Item.{Item}
use Rattle.pc_word.specs.declared.item.Operand.{Operand}
use Rattle.pc_word.specs.declared.item.Limits.{Limits}
use Rattle.pc_word.specs.Items.{dest_of, is_memory, is_effect}
use Rattle.pc_word.specs.Row.{items_of, tests_of, leaves_of, paths_of}
use Rattle.pc_word.specs.Data.{AreData}
use Rattle.pc_word.specs.Ranges.{AreLimits}
use Rattle.pc_word.proofs.Lists.{all_front, all_back, all_both, all_of_map, map_of_all, all_imply, all_at, count_more, count_both}
use Rattle.pc_word.proofs.Truth.{or_false}
use Rattle.pc_machine.specs.declared.tree.Leaf.{Leaf}
use Rattle.pc_machine.specs.declared.tree.Leaf.TheVariants.{Goto, Stop, Trap}
use Rattle.pc_machine.specs.MachineCode.{CodeRow, RowCode}
use Rattle.pc_machine.specs.Registers.{IsRegisterCount}
use Rattle.pc_machine.specs.WellFormed.{IsOperand, IsItem, IsLeaf, IsPath, IsRow, AreArrays, WellFormed}
use Rattle.pc_renaming.specs.declared.kept.Kept.{Kept}
use Rattle.pc_renaming.specs.Renaming.{Renaming, with_written}
use Rattle.pc_renaming.specs.ItemRenames.{OperandRenames, Same_value, Same_literal, ItemRenames, Same_bin, Same_copy, Same_load, Same_store, Same_print, Same_read, Same_more}
use Rattle.pc_renaming.specs.RowRenames.{ItemStays, Writes_none, Writes_one, LeafRenames, Ends, Leads, RowRenames, Without, With, Both_sides, At_end}
use Rattle.pc_renaming.specs.IsRenamed.{IsRenamed}
use Rattle.pc_renaming.proofs.Alike.{no_dest, effect_same, memory_same}

-- ---- lists

all_by_place : {X : Type 0} (P : X → Type 0) (xs : List X) → ((i : ℕ) (x : X) → slice_get xs i ≡ Some x → P x) → AllByRecursion P xs
all_by_place P [] each = tt
all_by_place P (x ∷ xs) each = (each 0 x refl, all_by_place P xs (λ i y at. each (suc i) y at))

all_join : {X : Type 0} (P Q R : X → Type 0) (xs : List X) → ((x : X) → P x → Q x → R x) → AllByRecursion P xs → AllByRecursion Q xs → AllByRecursion R xs
all_join P Q R [] both ps qs = tt
all_join P Q R (x ∷ xs) both ps qs = (both x ps.0 qs.0, all_join P Q R xs both ps.1 qs.1)

-- ---- items

operand_there : {registers : ℕ} {home : ℕ → Option ℕ} {on one : Operand} → OperandRenames registers home on one → IsOperand registers one
operand_there (Same_value at below) = below
operand_there Same_literal = tt

item_there : {registers : ℕ} {home : ℕ → Option ℕ} (arrays : ℕ) {x y : Item} → ItemRenames registers home x y → IsItem registers arrays x
    → ((made : ℕ) → dest_of y ≡ Some made → made < registers) → IsItem registers arrays y
item_there arrays (Same_bin l r) there dest = (dest _ refl, operand_there l, operand_there r)
item_there arrays (Same_copy from) there dest = (dest _ refl, operand_there from)
item_there arrays (Same_load i) there dest = (dest _ refl, there.1, operand_there i)
item_there arrays (Same_store i v) there dest = (there.0, operand_there i, operand_there v)
item_there arrays (Same_print v) there dest = operand_there v
item_there arrays Same_read there dest = dest _ refl
item_there arrays Same_more there dest = dest _ refl

one_dest : {a b : ℕ} → ◌≡◌ {A = Option ℕ} (Some a) (Some b) → a ≡ b
one_dest e = (cc)

module _ {registers : ℕ} {home : ℕ → Option ℕ} {kept then_kept : ℕ → Kept} {written then_written : ℕ → Bool} {x y : Item} where
  stays_there : (arrays : ℕ) → ItemStays registers home kept written x y then_kept then_written → IsItem registers arrays x → IsItem registers arrays y
  stays_there arrays (Writes_none same none kept_is written_is) there =
      item_there arrays same there (λ made is. let clash = sym (no_dest same none) ∙ is in absurd (cc))
  stays_there arrays (Writes_one same is other_is was_before below fresh kept_is written_is) there =
      item_there arrays same there (λ made at. subst (λ m. m < registers) (one_dest (sym other_is ∙ at)) below)

  stays_effect : ItemStays registers home kept written x y then_kept then_written → is_effect y ≡ is_effect x
  stays_effect (Writes_none same none kept_is written_is) = effect_same same
  stays_effect (Writes_one same is other_is was_before below fresh kept_is written_is) = effect_same same

  stays_memory : ItemStays registers home kept written x y then_kept then_written → is_memory y ≡ is_memory x
  stays_memory (Writes_none same none kept_is written_is) = memory_same same
  stays_memory (Writes_one same is other_is was_before below fresh kept_is written_is) = memory_same same

-- ---- paths

-- registers that are written once, and not by what stands above
Fresh : (ℕ → Bool) → List ℕ → Type 0
Fresh written dests = IsDistinct nat_eq dests × AllByRecursion (λ place. written place ≡ false) dests

fresh_more : (written : ℕ → Bool) (made : ℕ) (dests : List ℕ) → written made ≡ false → Fresh (with_written made written) dests → Fresh written (made ∷ dests)
unfolding IsDistinct Fresh
fresh_more written made dests free fresh = (
  (all_imply (λ place. with_written made written place ≡ false) (λ place. nat_eq made place ≡ false) dests (λ place e. (or_false (nat_eq made place) (written place) e).0) fresh.1, fresh.0),
  (free, all_imply (λ place. with_written made written place ≡ false) (λ place. written place ≡ false) dests (λ place e. (or_false (nat_eq made place) (written place) e).1) fresh.1),
)

fresh_none : (written : ℕ → Bool) → Fresh written []
unfolding IsDistinct Fresh
fresh_none written = (tt, tt)

fresh_once : (written : ℕ → Bool) (dests : List ℕ) → Fresh written dests → IsDistinct nat_eq dests
unfolding Fresh
fresh_once written dests fresh = fresh.0

fresh_item : {registers : ℕ} {home : ℕ → Option ℕ} {kept then_kept : ℕ → Kept} {written then_written : ℕ → Bool} {x y : Item} (ys : List Item)
    → ItemStays registers home kept written x y then_kept then_written → Fresh then_written (filter_map dest_of ys) → Fresh written (filter_map dest_of (y ∷ ys))
fresh_item {written = written} ys (Writes_none same none kept_is written_is) fresh =
    subst (λ (d : Option ℕ). Fresh written (cons_option d (filter_map dest_of ys))) (sym (no_dest same none)) (subst (λ (w : ℕ → Bool). Fresh w (filter_map dest_of ys)) written_is fresh)
fresh_item {written = written} ys (Writes_one {made = made} same is other_is was_before below free kept_is written_is) fresh =
    subst (λ (d : Option ℕ). Fresh written (cons_option d (filter_map dest_of ys))) (sym other_is)
    (fresh_more written made (filter_map dest_of ys) free (subst (λ (w : ℕ → Bool). Fresh w (filter_map dest_of ys)) written_is fresh))

leaf_there : {rows : ℕ} {renaming : Renaming} {home : ℕ → Option ℕ} {kept : ℕ → Kept} {written : ℕ → Bool} {leaf other : Leaf}
    → LeafRenames rows renaming home kept written leaf other → IsLeaf rows other
leaf_there {leaf = Goto row} (Ends none) = absurd (cc)
leaf_there {leaf = Stop} (Ends none) = tt
leaf_there {leaf = Trap kind line} (Ends none) = tt
leaf_there (Leads below is found) = below

module _ {registers rows : ℕ} {renaming : Renaming} {home : ℕ → Option ℕ} where
  fresh_paths : {kept : ℕ → Kept} {written : ℕ → Bool} {row other : CodeRow} → RowRenames registers rows renaming home kept written row other
      → AllByRecursion (λ ys. Fresh written (filter_map dest_of ys)) (paths_of other)
  fresh_paths (Without goes rest) = fresh_paths rest
  fresh_paths {written = written} (With {then_written = later} {other = y} {after = other} stays rest) =
      map_of_all (λ ys. Fresh written (filter_map dest_of ys)) (λ ys. y ∷ ys) (paths_of other)
      (all_imply (λ ys. Fresh later (filter_map dest_of ys)) (λ ys. Fresh written (filter_map dest_of (y ∷ ys))) (paths_of other) (λ ys fresh. fresh_item ys stays fresh) (fresh_paths rest))
  fresh_paths {written = written} (Both_sides {after_yes = other_yes} {after_no = other_no} same on_yes on_no) =
      all_both (λ ys. Fresh written (filter_map dest_of ys)) (paths_of other_yes) (paths_of other_no) (fresh_paths on_yes) (fresh_paths on_no)
  fresh_paths {written = written} (At_end leaves) = (fresh_none written, tt)

  few_effects : {kept : ℕ → Kept} {written : ℕ → Bool} {row other : CodeRow} → RowRenames registers rows renaming home kept written row other
      → (above : ℕ) → AllByRecursion (λ xs. above + count_by is_effect xs ≤ 1) (paths_of row) → AllByRecursion (λ ys. above + count_by is_effect ys ≤ 1) (paths_of other)
  few_effects (Without {item = x} {before = row} goes rest) above all =
      few_effects rest above (all_imply (λ xs. above + count_by is_effect (x ∷ xs) ≤ 1) (λ xs. above + count_by is_effect xs ≤ 1) (paths_of row)
      (λ xs few. let more = count_more is_effect x xs in omega arith) (all_of_map (λ xs. above + count_by is_effect xs ≤ 1) (λ xs. x ∷ xs) (paths_of row) all))
  few_effects (With {item = x} {other = y} {before = row} {after = other} stays rest) above all =
      let here : ℕ = above + cond (is_effect x) 1 0 in
      let as_many : ◌≡◌ {A = ℕ} (cond (is_effect y) 1 0) (cond (is_effect x) 1 0) = ap (λ (b : Bool). cond {A = ℕ} b 1 0) (stays_effect stays) in
      map_of_all (λ ys. above + count_by is_effect ys ≤ 1) (λ ys. y ∷ ys) (paths_of other)
      (all_imply (λ ys. here + count_by is_effect ys ≤ 1) (λ ys. above + count_by is_effect (y ∷ ys) ≤ 1) (paths_of other) (λ ys few. let more = count_more is_effect y ys in omega arith)
      (few_effects rest here (all_imply (λ xs. above + count_by is_effect (x ∷ xs) ≤ 1) (λ xs. here + count_by is_effect xs ≤ 1) (paths_of row)
      (λ xs few. let more = count_more is_effect x xs in omega arith) (all_of_map (λ xs. above + count_by is_effect xs ≤ 1) (λ xs. x ∷ xs) (paths_of row) all))))
  few_effects (Both_sides {before_yes = row_yes} {before_no = row_no} {after_yes = other_yes} {after_no = other_no} same on_yes on_no) above all =
      let P : List Item → Type 0 = λ xs. above + count_by is_effect xs ≤ 1 in
      all_both P (paths_of other_yes) (paths_of other_no) (few_effects on_yes above (all_front P (paths_of row_yes) (paths_of row_no) all))
      (few_effects on_no above (all_back P (paths_of row_yes) (paths_of row_no) all))
  few_effects (At_end leaves) above all = all

  -- ---- the whole row

  fewer_items : {kept : ℕ → Kept} {written : ℕ → Bool} {row other : CodeRow} → RowRenames registers rows renaming home kept written row other → length (items_of other) ≤ length (items_of row)
  fewer_items (Without goes rest) = let fewer = fewer_items rest in omega arith
  fewer_items (With stays rest) = let fewer = fewer_items rest in omega arith
  fewer_items (Both_sides {before_yes = row_yes} {before_no = row_no} {after_yes = other_yes} {after_no = other_no} same on_yes on_no) =
      let a = fewer_items on_yes in
      let b = fewer_items on_no in
      omega (arith, length-append (items_of other_yes) (items_of other_no), length-append (items_of row_yes) (items_of row_no))
  fewer_items (At_end leaves) = omega arith

  same_tests : {kept : ℕ → Kept} {written : ℕ → Bool} {row other : CodeRow} → RowRenames registers rows renaming home kept written row other → length (tests_of other) ≡ length (tests_of row)
  same_tests (Without goes rest) = same_tests rest
  same_tests (With stays rest) = same_tests rest
  same_tests (Both_sides {before_yes = row_yes} {before_no = row_no} {after_yes = other_yes} {after_no = other_no} same on_yes on_no) =
      let a = same_tests on_yes in
      let b = same_tests on_no in
      omega (arith, length-append (tests_of other_yes) (tests_of other_no), length-append (tests_of row_yes) (tests_of row_no))
  same_tests (At_end leaves) = refl

  fewer_memory : {kept : ℕ → Kept} {written : ℕ → Bool} {row other : CodeRow} → RowRenames registers rows renaming home kept written row other
      → count_by is_memory (items_of other) ≤ count_by is_memory (items_of row)
  fewer_memory (Without {item = x} {before = row} goes rest) =
      let fewer = fewer_memory rest in
      let more = count_more is_memory x (items_of row) in
      omega arith
  fewer_memory (With {item = x} {other = y} {before = row} {after = other} stays rest) =
      let fewer = fewer_memory rest in
      let more = count_more is_memory x (items_of row) in
      let made = count_more is_memory y (items_of other) in
      let as_many : ◌≡◌ {A = ℕ} (cond (is_memory y) 1 0) (cond (is_memory x) 1 0) = ap (λ (b : Bool). cond {A = ℕ} b 1 0) (stays_memory stays) in
      omega arith
  fewer_memory (Both_sides {before_yes = row_yes} {before_no = row_no} {after_yes = other_yes} {after_no = other_no} same on_yes on_no) =
      let a = fewer_memory on_yes in
      let b = fewer_memory on_no in
      omega (arith, count_both is_memory (items_of other_yes) (items_of other_no), count_both is_memory (items_of row_yes) (items_of row_no))
  fewer_memory (At_end leaves) = omega arith

  items_there : (arrays : ℕ) {kept : ℕ → Kept} {written : ℕ → Bool} {row other : CodeRow} → RowRenames registers rows renaming home kept written row other
      → AllByRecursion (IsItem registers arrays) (items_of row) → AllByRecursion (IsItem registers arrays) (items_of other)
  items_there arrays (Without goes rest) all = items_there arrays rest all.1
  items_there arrays (With stays rest) all = (stays_there arrays stays all.0, items_there arrays rest all.1)
  items_there arrays (Both_sides {before_yes = row_yes} {before_no = row_no} {after_yes = other_yes} {after_no = other_no} same on_yes on_no) all =
      all_both (IsItem registers arrays) (items_of other_yes) (items_of other_no) (items_there arrays on_yes (all_front (IsItem registers arrays) (items_of row_yes) (items_of row_no) all))
      (items_there arrays on_no (all_back (IsItem registers arrays) (items_of row_yes) (items_of row_no) all))
  items_there arrays (At_end leaves) all = tt

  tests_there : {kept : ℕ → Kept} {written : ℕ → Bool} {row other : CodeRow} → RowRenames registers rows renaming home kept written row other
      → AllByRecursion (IsOperand registers) (tests_of other)
  tests_there (Without goes rest) = tests_there rest
  tests_there (With stays rest) = tests_there rest
  tests_there (Both_sides {after_yes = other_yes} {after_no = other_no} same on_yes on_no) =
      (operand_there same, all_both (IsOperand registers) (tests_of other_yes) (tests_of other_no) (tests_there on_yes) (tests_there on_no))
  tests_there (At_end leaves) = tt

  pub leaves_there : {kept : ℕ → Kept} {written : ℕ → Bool} {row other : CodeRow} → RowRenames registers rows renaming home kept written row other
      → AllByRecursion (IsLeaf rows) (leaves_of other)
  leaves_there (Without goes rest) = leaves_there rest
  leaves_there (With stays rest) = leaves_there rest
  leaves_there (Both_sides {after_yes = other_yes} {after_no = other_no} same on_yes on_no) =
      all_both (IsLeaf rows) (leaves_of other_yes) (leaves_of other_no) (leaves_there on_yes) (leaves_there on_no)
  leaves_there (At_end leaves) = (leaf_there leaves, tt)

  row_there : (limits : Limits) (arrays many : ℕ) {kept : ℕ → Kept} {written : ℕ → Bool} {row other : CodeRow} → RowRenames registers rows renaming home kept written row other
      → IsRow limits registers arrays many row → IsRow limits registers arrays rows other
  row_there limits arrays many {written = written} {row = row} {other = other} renames is = record {
    ops = let fewer = fewer_items renames in let most = is.ops in omega arith;
    tests = let same = same_tests renames in let most = is.tests in omega arith;
    mem = let fewer = fewer_memory renames in let most = is.mem in omega arith;
    items = items_there arrays renames is.items;
    operands = tests_there renames;
    leaves = leaves_there renames;
    paths = all_join (λ ys. Fresh written (filter_map dest_of ys)) (λ ys. 0 + count_by is_effect ys ≤ 1) IsPath (paths_of other)
        (λ ys fresh few. record { writes_once = fresh_once written (filter_map dest_of ys) fresh; one_effect = omega arith }) (fresh_paths renames)
        (few_effects renames 0 (all_imply IsPath (λ xs. 0 + count_by is_effect xs ≤ 1) (paths_of row) (λ xs path. let one = path.one_effect in omega arith) is.paths));
  }

-- ---- the code

pub renaming_keeps_form : (renaming : Renaming) (before after : RowCode) → IsRenamed renaming before after → WellFormed before → WellFormed after
renaming_keeps_form renaming before after renamed well = record {
  limits = subst AreLimits (sym renamed.limits) well.limits;
  registers = subst IsRegisterCount (sym renamed.registers) well.registers;
  arrays = subst AreArrays (sym renamed.arrays) well.arrays;
  initial = subst (λ (arrays : List ℕ). AreData arrays after.initial) (sym renamed.arrays) (subst (λ (words : List (List ℤ)). AreData before.arrays words) (sym renamed.initial) well.initial);
  entry = renamed.rows.entry;
  rows = subst (λ (limits : Limits). AllByRecursion (IsRow limits after.registers (length after.arrays) (length after.rows)) after.rows) (sym renamed.limits)
      (subst (λ n. AllByRecursion (IsRow before.limits n (length after.arrays) (length after.rows)) after.rows) (sym renamed.registers)
      (subst (λ (arrays : List ℕ). AllByRecursion (IsRow before.limits before.registers (length arrays) (length after.rows)) after.rows) (sym renamed.arrays)
      (all_by_place (IsRow before.limits before.registers (length before.arrays) (length after.rows)) after.rows (λ i row at.
      let does = renamed.rows.each i row at in
      row_there before.limits (length before.arrays) (length before.rows) does.2
      (all_at (IsRow before.limits before.registers (length before.arrays) (length before.rows)) before.rows (renaming.origin i) does.0 well.rows does.1)))));
}
