-- What a well-formed object has: registers, arrays and targets that are there, and few rows.
use Rattle.std.proofs.Common.{◌≡◌, Bool, true, false, inl, inr, ℤ, ℕ, ◌^◌, ◌<◌, ◌≤◌, List, [], ◌∷◌, ◌++◌, length, All, refl, arith, length-append}
use Rattle.std.specs.Prelude.{FitsSigned, nat_eq, if◌then◌else◌, OnOk, Result, Ok, Err}
use Rattle.pc_word.proofs.Truth.{and_true}
use Rattle.pc_word.specs.Data.{has_no_data}
use Rattle.pc_object.specs.declared.version.Version.TheVariants.{Ptv1, Ptv2}
use Rattle.pc_object.specs.ObjectText.{fits_ptv1, version_for}
use Rattle.std.specs.Int.{w32}
use Rattle.std.specs.List.{flat_map, AllByRecursion}
use Rattle.std.proofs.lemmas.List.Elements.{All-from_recursion, recursion_from_All}
use Rattle.pc_word.specs.declared.item.Item.{Item}
use Rattle.pc_word.specs.declared.item.Item.TheVariants.{Bin, Copy, Load, Store, Print, Read, More}
use Rattle.pc_word.specs.declared.item.Operand.{Operand}
use Rattle.pc_word.specs.declared.item.Operand.TheVariants.{Name, Lit}
use Rattle.pc_word.specs.declared.item.Limits.{Limits}
use Rattle.pc_word.specs.declared.row_tree.RowTree.{RowTree}
use Rattle.pc_machine.specs.declared.tree.Leaf.{Leaf}
use Rattle.pc_machine.specs.declared.tree.Leaf.TheVariants.{Goto, Stop, Trap}
use Rattle.pc_machine.specs.MachineCode.{CodeRow, row_of, rows_of}
use Rattle.pc_word.specs.Row.{Then, Either, At_leaf, items_of, tests_of, leaves_of}
use Rattle.pc_machine.specs.WellFormed.{IsOperand, IsItem, IsLeaf, IsRow}
use Rattle.pc_object.specs.declared.object.Object.{Object}
use Rattle.pc_object.specs.ObjectText.{CodeWithNotes, row_text, item_text, header_text, notes_text, object_of, IsObject}
use Rattle.pc_object.specs.models.InRange.{IsInRange}
use Rattle.pc_object.specs.Numbers.{RowNumbersFit, NoteFits, WordsFit, HasWords, HasByteRegisters}
use Rattle.pc_word.proofs.Lists.{all_front, all_back}
use Rattle.pc_word.specs.MachineLimits.{most_arrays, most_length}
use Rattle.pc_machine.specs.Registers.{few_registers, most_registers, IsRegisterCount}
use Rattle.pc_word.specs.Data.{AreData}
use Rattle.pc_word.specs.Ranges.{IsBetween}

-- ---- registers, arrays and targets

-- what is there of few is there of more
operand_of_more : (few many : ℕ) (operand : Operand) → few ≤ many → IsOperand few operand → IsOperand many operand
operand_of_more few many (Name register) le h = omega arith
operand_of_more few many (Lit value) le h = tt

pub item_of_more : (registers arrays more many : ℕ) (item : Item) → registers ≤ more → arrays ≤ many → IsItem registers arrays item → IsItem more many item
item_of_more registers arrays more many (Bin op dest left right) le le2 h = (omega arith, operand_of_more registers more left le h.1, operand_of_more registers more right le h.2)
item_of_more registers arrays more many (Copy dest from) le le2 h = (omega arith, operand_of_more registers more from le h.1)
item_of_more registers arrays more many (Load dest array index) le le2 h = (omega arith, omega arith, operand_of_more registers more index le h.2)
item_of_more registers arrays more many (Store array index value) le le2 h = (omega arith, operand_of_more registers more index le h.1, operand_of_more registers more value le h.2)
item_of_more registers arrays more many (Print value) le le2 h = operand_of_more registers more value le h
item_of_more registers arrays more many (Read dest) le le2 h = omega arith
item_of_more registers arrays more many (More dest) le le2 h = omega arith

-- an item that is in range has registers that are bytes
pub byte_registers : (arrays : ℕ) (item : Item) → IsItem most_registers arrays item → HasByteRegisters item
byte_registers arrays (Bin op dest left right) h = h
byte_registers arrays (Copy dest from) h = h
byte_registers arrays (Load dest array index) h = (h.0, h.2)
byte_registers arrays (Store array index value) h = (h.1, h.2)
byte_registers arrays (Print value) h = h
byte_registers arrays (Read dest) h = h
byte_registers arrays (More dest) h = h

leaf_of_more : (few many : ℕ) (leaf : Leaf) → few ≤ many → IsLeaf few leaf → IsLeaf many leaf
leaf_of_more few many (Goto row) le h = omega arith
leaf_of_more few many Stop le h = tt
leaf_of_more few many (Trap kind line) le h = tt

pub range_of_more : (registers arrays rows more some many : ℕ) (row : CodeRow) → registers ≤ more → arrays ≤ some → rows ≤ many → IsInRange registers arrays rows row
    → IsInRange more some many row
range_of_more registers arrays rows more some many (Then item rest) le le2 le3 h =
    (item_of_more registers arrays more some item le le2 h.0, range_of_more registers arrays rows more some many rest le le2 le3 h.1)
range_of_more registers arrays rows more some many (Either on on_yes on_no) le le2 le3 h = (
  operand_of_more registers more on le h.0,
  range_of_more registers arrays rows more some many on_yes le le2 le3 h.1,
  range_of_more registers arrays rows more some many on_no le le2 le3 h.2,
)
range_of_more registers arrays rows more some many (At_leaf leaf) le le2 le3 h = leaf_of_more rows many leaf le3 h

-- the lists of a row say the same of its tree
pub range_from_lists : (registers arrays rows : ℕ) (row : CodeRow) → AllByRecursion (IsItem registers arrays) (items_of row) → AllByRecursion (IsOperand registers) (tests_of row)
    → AllByRecursion (IsLeaf rows) (leaves_of row) → IsInRange registers arrays rows row
range_from_lists registers arrays rows (Then item rest) items tests leaves = (items.0, range_from_lists registers arrays rows rest items.1 tests leaves)
range_from_lists registers arrays rows (Either on on_yes on_no) items tests leaves = (
  tests.0,
  range_from_lists registers arrays rows on_yes (all_front (IsItem registers arrays) (items_of on_yes) (items_of on_no) items)
      (all_front (IsOperand registers) (tests_of on_yes) (tests_of on_no) tests.1) (all_front (IsLeaf rows) (leaves_of on_yes) (leaves_of on_no) leaves),
  range_from_lists registers arrays rows on_no (all_back (IsItem registers arrays) (items_of on_yes) (items_of on_no) items)
      (all_back (IsOperand registers) (tests_of on_yes) (tests_of on_no) tests.1) (all_back (IsLeaf rows) (leaves_of on_yes) (leaves_of on_no) leaves),
)
range_from_lists registers arrays rows (At_leaf leaf) items tests leaves = leaves.0

ranges_of : (limits : Limits) (registers arrays rows : ℕ) (trees : List (RowTree Leaf)) → registers ≤ most_registers → arrays ≤ most_arrays → rows ≤ 2 ^ 32
    → AllByRecursion (IsRow limits registers arrays rows) (rows_of trees)
    → AllByRecursion (λ tree. IsInRange most_registers most_arrays (2 ^ 32) (row_of tree)) trees
ranges_of limits registers arrays rows [] le le2 le3 h = tt
ranges_of limits registers arrays rows (tree ∷ trees) le le2 le3 h = (
  range_of_more registers arrays rows most_registers most_arrays (2 ^ 32) (row_of tree) le le2 le3 (range_from_lists registers arrays rows (row_of tree) h.0.items h.0.operands h.0.leaves),
  ranges_of limits registers arrays rows trees le le2 le3 h.1,
)

-- a code's registers are at most the most
pub registers_below : (registers : ℕ) → IsRegisterCount registers → registers ≤ most_registers
registers_below registers (inl few) = omega (arith, few)
registers_below registers (inr most) = omega (arith, most)

-- ---- how many rows

item_text_some : (item : Item) → 1 ≤ length (item_text item)
item_text_some (Bin op dest left right) = omega arith
item_text_some (Copy dest from) = omega arith
item_text_some (Load dest array index) = omega arith
item_text_some (Store array index value) = omega arith
item_text_some (Print value) = omega arith
item_text_some (Read dest) = omega arith
item_text_some (More dest) = omega arith

-- a row has a byte
row_text_some : (row : CodeRow) → 1 ≤ length (row_text row)
row_text_some (Then item rest) = omega (arith, length-append (item_text item) (row_text rest), item_text_some item)
row_text_some (Either on on_yes on_no) = omega arith
row_text_some (At_leaf (Goto row)) = omega arith
row_text_some (At_leaf Stop) = omega arith
row_text_some (At_leaf (Trap kind line)) = omega arith

pub length-rows : (rows : List CodeRow) → length rows ≤ length (flat_map row_text rows)
length-rows [] = omega arith
length-rows (row ∷ rows) = omega (arith, length-append (row_text row) (flat_map row_text rows), row_text_some row, length-rows rows)

length-rows_of : (trees : List (RowTree Leaf)) → length (rows_of trees) ≡ length trees
length-rows_of [] = refl
length-rows_of (tree ∷ trees) = omega (arith, length-rows_of trees)

-- there are at most as many rows as bytes
pub rows_below : (object : CodeWithNotes) → IsObject object → length object.code.rows < 2 ^ 32
rows_below object h =
    let rows = object.code.rows in
    omega (
      arith,
      h.few_bytes,
      length-append (header_text object.code) (flat_map row_text rows ++ notes_text object.notes),
      length-append (flat_map row_text rows) (notes_text object.notes),
      length-rows rows,
    )

pub few_rows : (object : Object) → IsObject (object_of object) → length object.code.rows < 2 ^ 32
few_rows object h = omega (arith, rows_below (object_of object) h, length-rows_of object.code.rows)

pub all_in_range : (object : Object) → IsObject (object_of object) → All (λ tree. IsInRange most_registers most_arrays (2 ^ 32) (row_of tree)) object.code.rows
all_in_range object h =
    All-from_recursion (λ tree. IsInRange most_registers most_arrays (2 ^ 32) (row_of tree)) object.code.rows
    (ranges_of object.code.limits object.code.registers (length object.code.arrays) (length (rows_of object.code.rows)) object.code.rows
    (registers_below object.code.registers h.code.registers) h.code.arrays.count
    (omega (arith, few_rows object h, length-rows_of object.code.rows)) h.code.rows)

-- ---- the data of arrays

-- a length that may be has four bytes
pub lengths_below : (lengths : List ℕ) → AllByRecursion (IsBetween 1 most_length) lengths → AllByRecursion (λ n. n < 2 ^ 32) lengths
lengths_below [] each = tt
lengths_below (n ∷ lengths) each = (omega (arith, each.0.1), lengths_below lengths each.1)

-- each array has its list of words
pub as_many_lists : (lengths : List ℕ) (initial : List (List ℤ)) → AreData lengths initial → length initial ≡ length lengths
as_many_lists [] [] are = refl
as_many_lists [] (words ∷ initial) are = absurd are
as_many_lists (elements ∷ lengths) [] are = absurd are
as_many_lists (elements ∷ lengths) (words ∷ initial) are = let rest = as_many_lists lengths initial are.1 in omega (arith, rest)

pub few_words_of : (lengths : List ℕ) (initial : List (List ℤ)) → AllByRecursion (IsBetween 1 most_length) lengths → AreData lengths initial → AllByRecursion (λ words. length words < 2 ^ 32) initial
few_words_of [] [] each are = tt
few_words_of [] (words ∷ initial) each are = absurd are
few_words_of (elements ∷ lengths) [] each are = absurd are
few_words_of (elements ∷ lengths) (words ∷ initial) each are = (omega (arith, are.0.fits, each.0.1), few_words_of lengths initial each.1 are.1)

-- no array begins with too many words
pub few_words : (object : Object) → IsObject (object_of object) → All (λ words. length words < 2 ^ 32) object.code.initial
few_words object h =
    All-from_recursion (λ words. length words < 2 ^ 32) object.code.initial (few_words_of object.code.arrays object.code.initial h.code.arrays.each h.code.initial)

-- ---- words

rows_fit : (trees : List (RowTree Leaf)) → AllByRecursion (λ tree. RowNumbersFit (row_of tree)) trees → AllByRecursion RowNumbersFit (rows_of trees)
rows_fit [] h = tt
rows_fit (tree ∷ trees) h = (h.0, rows_fit trees h.1)

-- lists without words have none that is no word
empty_fit : (initial : List (List ℤ)) → has_no_data initial ≡ true → AllByRecursion (All (FitsSigned w32)) initial
empty_fit [] none = tt
empty_fit ([] ∷ initial) none = ((λ k d lt. absurd (omega (arith, lt))), empty_fit initial none)
empty_fit ((word ∷ words) ∷ initial) none = absurd cc

-- so it is where PTV1 is due
pub ptv1_fits : (registers : ℕ) (initial : List (List ℤ)) → Ptv1 ≡ version_for registers initial → All (All (FitsSigned w32)) initial
ptv1_fits registers initial e = by_fit (fits_ptv1 registers initial) refl e
  where
    by_fit : (fits : Bool) → fits_ptv1 registers initial ≡ fits → Ptv1 ≡ (if fits then Ptv1 else Ptv2) → All (All (FitsSigned w32)) initial
    by_fit true is due =
        All-from_recursion (All (FitsSigned w32)) initial (empty_fit initial (and_true (nat_eq registers few_registers) (has_no_data initial) is).1)
    by_fit false is due = absurd cc

-- what holds holds after a call
pub on_ok : {X E P : Type 0} (result : Result X E) → P → OnOk result P
on_ok (Ok x) p = p
on_ok (Err e) p = tt

lists_fit : (initial : List (List ℤ)) → AllByRecursion (All (FitsSigned w32)) initial → AllByRecursion WordsFit initial
lists_fit [] h = tt
lists_fit (words ∷ initial) h = (recursion_from_All (FitsSigned w32) words h.0, lists_fit initial h.1)

pub has_words : (object : Object) → All (All (FitsSigned w32)) object.code.initial → All (λ tree. RowNumbersFit (row_of tree)) object.code.rows → All NoteFits object.notes
    → HasWords (object_of object)
has_words object initial rows notes = record {
  initial = lists_fit object.code.initial (recursion_from_All (All (FitsSigned w32)) object.code.initial initial);
  rows = rows_fit object.code.rows (recursion_from_All (λ tree. RowNumbersFit (row_of tree)) object.code.rows rows);
  notes = recursion_from_All NoteFits object.notes notes;
}
