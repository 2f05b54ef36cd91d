-- The flaws of a code, in the order in which its text has the fields at which they stand: the header, and then each
-- row in preorder, the yes side before the no side.
use Rattle.std.specs.Ordering.{int_eq}
use Rattle.std.specs.Prelude.{ℕ, suc, ℤ, pos, ◌+◌, Bool, true, false, not, ◌&&◌, ◌||◌, nat_eq, nat_lt, nat_le, List, [], ◌∷◌, ◌++◌, length}
use Rattle.std.specs.List.{flat_map}
use Rattle.pc_word.specs.declared.item.Item.{Item}
use Rattle.pc_word.specs.declared.item.Item.TheVariants.{Bin, Copy, Load, Store, Print, Read, More}
use Rattle.pc_word.specs.declared.item.Operand.{Operand}
use Rattle.pc_word.specs.declared.item.Operand.TheVariants.{Name, Lit}
use Rattle.pc_word.specs.declared.item.Limits.{Limits}
use Rattle.pc_machine.specs.declared.code.Flaw.{Flaw}
use Rattle.pc_machine.specs.declared.code.Flaw.TheVariants.{HeaderLimit, ArrayCount, Registers, ArrayLength, Elements, DataCount, DataTail, RowCount}
use Rattle.pc_machine.specs.declared.code.Flaw.TheVariants.{Register, Array, Target}
use Rattle.pc_machine.specs.declared.code.Flaw.TheVariants.{DestTwice, EffectTwice, TooManyOps, TooManyTests, TooManyMem}
use Rattle.pc_machine.specs.declared.check.Bounds.{Bounds}
use Rattle.pc_machine.specs.declared.check.Counts.{Counts}
use Rattle.pc_machine.specs.declared.tree.Leaf.{Leaf}
use Rattle.pc_machine.specs.declared.tree.Leaf.TheVariants.{Goto, Stop, Trap}
use Rattle.pc_machine.specs.MachineCode.{CodeRow, RowCode}
use Rattle.pc_word.specs.Row.{Then, Either, At_leaf}
use Rattle.pc_word.specs.Items.{dest_of, is_memory, is_effect}
use Rattle.pc_word.specs.Commit.{writes}
use Rattle.pc_word.specs.MachineLimits.{most_arrays, most_elements, most_length, most_mem, most_ops, most_tests}
use Rattle.pc_machine.specs.Registers.{few_registers, most_registers}
use Rattle.pc_word.specs.Data.{ends_in_zero}

-- a flaw, where a test says so
abbrev pub flaw_where : Bool → Flaw → List Flaw
flaw_where true flaw = flaw ∷ []
flaw_where false flaw = []

-- whether a number is from one to another
abbrev pub is_between : ℕ → ℕ → ℕ → Bool
is_between low high n = nat_le low n && nat_le n high

-- ---- the header

-- at a limit, which is at least 1 and at most this
abbrev pub limit_flaws : ℕ → ℕ → List Flaw
limit_flaws most limit = flaw_where (not (is_between 1 most limit)) HeaderLimit

-- at the three limits
abbrev pub limits_flaws : Limits → List Flaw
limits_flaws limits = limit_flaws most_ops limits.ops ++ (limit_flaws most_tests limits.tests ++ limit_flaws most_mem limits.mem)

-- at the number of arrays
abbrev pub array_count_flaws : ℕ → List Flaw
array_count_flaws count = flaw_where (nat_lt most_arrays count) ArrayCount

-- at the number of registers
abbrev pub register_count_flaws : ℕ → List Flaw
register_count_flaws count = flaw_where (not (nat_eq count few_registers || nat_eq count most_registers)) Registers

-- at the length of an array, where the arrays before it have so many elements
abbrev pub length_flaws : ℕ → ℕ → List Flaw
length_flaws before elements =
    flaw_where (not (is_between 1 most_length elements)) ArrayLength ++ flaw_where (nat_lt most_elements (before + elements)) Elements

-- at each length
abbrev pub lengths_flaws : ℕ → List ℕ → List Flaw
lengths_flaws before [] = []
lengths_flaws before (elements ∷ lengths) = length_flaws before elements ++ lengths_flaws (before + elements) lengths

-- at the count of the words with which an array of so many elements begins
abbrev pub data_count_flaws : ℕ → ℕ → List Flaw
data_count_flaws elements count = flaw_where (nat_lt elements count) DataCount

-- at the last of these words
abbrev pub data_tail_flaws : ℤ → List Flaw
data_tail_flaws last = flaw_where (int_eq last (pos 0)) DataTail

-- at that count, and at the last of these words
abbrev pub data_flaws : ℕ → List ℤ → List Flaw
data_flaws elements words = data_count_flaws elements (length words) ++ flaw_where (ends_in_zero words) DataTail

-- at the data of each array
abbrev pub each_data_flaws : List ℕ → List (List ℤ) → List Flaw
each_data_flaws (elements ∷ lengths) (words ∷ initial) = data_flaws elements words ++ each_data_flaws lengths initial
each_data_flaws _ _ = []

-- at the data: an array that has no list of words, or a list that has no array, is told before what is wrong with one
abbrev pub initial_flaws : List ℕ → List (List ℤ) → List Flaw
initial_flaws lengths initial = flaw_where (not (nat_eq (length initial) (length lengths))) DataCount ++ each_data_flaws lengths initial

-- at the number of rows
abbrev pub row_count_flaws : ℕ → List Flaw
row_count_flaws count = flaw_where (nat_eq count 0) RowCount

-- ---- what stands before a field in its row

-- on the path from the root: whether a register is written, and whether there is a print, read or more
pub record Above : Type 0 where
  pub written : ℕ → Bool
  pub effect : Bool

-- at the root
abbrev pub nothing_above : Above
nothing_above = record { written = λ register. false; effect = false }

-- below an item
abbrev pub above_with : Item → Above → Above
above_with item above =
    record { written = λ register. writes (dest_of item) register || above.written register; effect = is_effect item || above.effect }

-- before the first part of a tree
abbrev pub no_counts : Counts
no_counts = record { ops = 0; tests = 0; mem = 0 }

-- one more, where a test says so
abbrev pub one_where : Bool → ℕ → ℕ
one_where true n = suc n
one_where false n = n

-- after an item, which may be a load or store: what stands before is counted over the whole tree, on whatever path
abbrev pub counts_with_item : Bool → Counts → Counts
counts_with_item memory counts = record { ops = suc counts.ops; tests = counts.tests; mem = one_where memory counts.mem }

-- after a test
abbrev pub counts_with_test : Counts → Counts
counts_with_test counts = record { ops = counts.ops; tests = suc counts.tests; mem = counts.mem }

-- after all of a tree, or of the part of one
abbrev pub counts_after : CodeRow → Counts → Counts
counts_after (Then item rest) counts = counts_after rest (counts_with_item (is_memory item) counts)
counts_after (Either on on_yes on_no) counts = counts_after on_no (counts_after on_yes (counts_with_test counts))
counts_after (At_leaf leaf) counts = counts

-- ---- a row

-- at the tag of an item that is or is not a load or store, and a print, read or more
abbrev pub item_tag_flaws : Limits → Counts → Above → Bool → Bool → List Flaw
item_tag_flaws limits counts above memory effect =
    flaw_where (nat_le limits.ops counts.ops) TooManyOps
    ++ (flaw_where (memory && nat_le limits.mem counts.mem) TooManyMem ++ flaw_where (effect && above.effect) EffectTwice)

-- at the tag of a test
abbrev pub test_tag_flaws : Limits → Counts → List Flaw
test_tag_flaws limits counts = flaw_where (nat_le limits.tests counts.tests) TooManyTests

-- at a register, of so many
abbrev pub register_flaws : ℕ → ℕ → List Flaw
register_flaws registers register = flaw_where (nat_le registers register) Register

-- at the register that an item writes
abbrev pub dest_flaws : ℕ → Above → ℕ → List Flaw
dest_flaws registers above dest = register_flaws registers dest ++ flaw_where (above.written dest) DestTwice

-- at an operand
abbrev pub operand_flaws : ℕ → Operand → List Flaw
operand_flaws registers (Name register) = register_flaws registers register
operand_flaws registers (Lit value) = []

-- at an array, of so many
abbrev pub array_flaws : ℕ → ℕ → List Flaw
array_flaws arrays array = flaw_where (nat_le arrays array) Array

-- at the row that a goto leads to, of so many
abbrev pub target_flaws : ℕ → ℕ → List Flaw
target_flaws rows row = flaw_where (nat_le rows row) Target

-- after the tag of an item, field by field
abbrev pub field_flaws : Bounds → Above → Item → List Flaw
field_flaws bounds above (Bin op dest left right) =
    dest_flaws bounds.registers above dest ++ (operand_flaws bounds.registers left ++ operand_flaws bounds.registers right)
field_flaws bounds above (Copy dest from) = dest_flaws bounds.registers above dest ++ operand_flaws bounds.registers from
field_flaws bounds above (Load dest array index) =
    dest_flaws bounds.registers above dest ++ (array_flaws bounds.arrays array ++ operand_flaws bounds.registers index)
field_flaws bounds above (Store array index value) =
    array_flaws bounds.arrays array ++ (operand_flaws bounds.registers index ++ operand_flaws bounds.registers value)
field_flaws bounds above (Print value) = operand_flaws bounds.registers value
field_flaws bounds above (Read dest) = dest_flaws bounds.registers above dest
field_flaws bounds above (More dest) = dest_flaws bounds.registers above dest

-- of an item
abbrev pub item_flaws : Bounds → Counts → Above → Item → List Flaw
item_flaws bounds counts above item =
    item_tag_flaws bounds.limits counts above (is_memory item) (is_effect item) ++ field_flaws bounds above item

-- of a test
abbrev pub test_flaws : Bounds → Counts → Operand → List Flaw
test_flaws bounds counts on = test_tag_flaws bounds.limits counts ++ operand_flaws bounds.registers on

-- of a leaf
abbrev pub leaf_flaws : Bounds → Leaf → List Flaw
leaf_flaws bounds (Goto row) = target_flaws bounds.rows row
leaf_flaws bounds Stop = []
leaf_flaws bounds (Trap kind line) = []

-- of a tree, or of the part of one that stands after these counts and under this path
abbrev pub row_flaws : Bounds → Counts → Above → CodeRow → List Flaw
row_flaws bounds counts above (Then item rest) =
    item_flaws bounds counts above item ++ row_flaws bounds (counts_with_item (is_memory item) counts) (above_with item above) rest
row_flaws bounds counts above (Either on on_yes on_no) =
    test_flaws bounds counts on
    ++ (row_flaws bounds (counts_with_test counts) above on_yes
    ++ row_flaws bounds (counts_after on_yes (counts_with_test counts)) above on_no)
row_flaws bounds counts above (At_leaf leaf) = leaf_flaws bounds leaf

-- ---- the code

-- what each row of a code is held against
abbrev pub bounds_of : RowCode → Bounds
bounds_of code = record { limits = code.limits; registers = code.registers; arrays = length code.arrays; rows = length code.rows }

-- of the header: the limits, the number of arrays, the number of registers, the lengths of arrays, their data, the number of rows
abbrev pub header_flaws : RowCode → List Flaw
header_flaws code =
    limits_flaws code.limits
    ++ (array_count_flaws (length code.arrays)
    ++ (register_count_flaws code.registers
    ++ (lengths_flaws 0 code.arrays ++ (initial_flaws code.arrays code.initial ++ row_count_flaws (length code.rows)))))

-- all flaws, in the order of the text
abbrev pub flaws_of : RowCode → List Flaw
flaws_of code = header_flaws code ++ flat_map (row_flaws (bounds_of code) no_counts nothing_above) code.rows
