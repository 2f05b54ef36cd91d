-- A row of a well-formed code can be run.
use Rattle.std.proofs.Common.{◌≡◌, ◌⊎◌, inl, inr, ℕ, ◌<◌, ◌≤◌, true, false, List, length, Option, Some, arith, length-append, get_or, refl, ap, ◌∙◌}
use Rattle.std.specs.Prelude.{ℤ, if◌then◌else◌, slice_get, option_map}
use Rattle.std.specs.List.{AllByRecursion, count_by}
use Rattle.pc_word.specs.declared.item.Item.{Item}
use Rattle.pc_word.specs.declared.item.Item.TheVariants.{Bin, Copy, Load, Store, Print, Read, More}
use Rattle.pc_word.specs.declared.item.Operand.{Operand}
use Rattle.pc_word.specs.declared.item.Operand.TheVariants.{Name, Lit}
use Rattle.pc_word.specs.Word.{holds}
use Rattle.pc_machine.specs.MachineCode.{CodeRow, RowCode, row_of, rows_of}
use Rattle.pc_word.specs.Row.{Then, Either, At_leaf, path_of, items_of, tests_of}
use Rattle.pc_word.specs.Items.{operand_value, is_effect}
use Rattle.pc_machine.specs.Registers.{most_registers, IsRegisterCount}
use Rattle.pc_machine.specs.WellFormed.{IsItem, IsOperand, IsPath, IsRow, WellFormed}
use Rattle.pc_word.specs.declared.row_tree.RowTree.{RowTree}
use Rattle.pc_machine.specs.declared.tree.Leaf.{Leaf}
use Rattle.std.proofs.lemmas.Option.{slice_get-map, slice_get_read}
use Rattle.pc_word.proofs.Lists.{all_front, all_back, all_at, all_imply}
use Rattle.pc_machine.proofs.Paths.{path_taken}
use Rattle.pc_vm.specs.models.RowResult.{IsRunnable, longest}
use Rattle.pc_word.specs.MachineLimits.{most_ops}

-- ---- the machine has each register that a code may ask for

registers-most : (registers : ℕ) → IsRegisterCount registers → registers ≤ most_registers
registers-most registers (inl is) = omega (arith, is)
registers-most registers (inr is) = omega (arith, is)

operand_there : (registers : ℕ) (operand : Operand) → registers ≤ most_registers → IsOperand registers operand → IsOperand most_registers operand
operand_there registers (Name register) few is = omega (arith, few, is)
operand_there registers (Lit value) few is = tt

item_there : (registers arrays : ℕ) (item : Item) → registers ≤ most_registers → IsItem registers arrays item → IsItem most_registers arrays item
item_there registers arrays (Bin op dest left right) few is = (omega (arith, few, is.0), operand_there registers left few is.1, operand_there registers right few is.2)
item_there registers arrays (Copy dest from) few is = (omega (arith, few, is.0), operand_there registers from few is.1)
item_there registers arrays (Load dest array index) few is = (omega (arith, few, is.0), is.1, operand_there registers index few is.2)
item_there registers arrays (Store array index value) few is = (is.0, operand_there registers index few is.1, operand_there registers value few is.2)
item_there registers arrays (Print value) few is = operand_there registers value few is
item_there registers arrays (Read dest) few is = omega (arith, few, is)
item_there registers arrays (More dest) few is = omega (arith, few, is)

-- ---- a row of it

-- a row whose items and tests stand can be run
pub runnable : (arrays : ℕ) (row : CodeRow) → AllByRecursion (IsItem most_registers arrays) (items_of row) → AllByRecursion (IsOperand most_registers) (tests_of row) → IsRunnable arrays row
runnable arrays (Then item rest) items tests = (items.0, runnable arrays rest items.1 tests)
runnable arrays (Either on on_yes on_no) items tests = (
  tests.0,
  runnable arrays on_yes (all_front (IsItem most_registers arrays) (items_of on_yes) (items_of on_no) items) (all_front (IsOperand most_registers) (tests_of on_yes) (tests_of on_no) tests.1),
  runnable arrays on_no (all_back (IsItem most_registers arrays) (items_of on_yes) (items_of on_no) items) (all_back (IsOperand most_registers) (tests_of on_yes) (tests_of on_no) tests.1),
)
runnable arrays (At_leaf leaf) items tests = tt

-- and then the items of the path that is taken stand
pub path_runnable : (arrays : ℕ) (names : ℕ → ℤ) (row : CodeRow) → IsRunnable arrays row → AllByRecursion (IsItem most_registers arrays) (path_of names row)
path_runnable arrays names (Then item rest) run = (run.0, path_runnable arrays names rest run.1)
path_runnable arrays names (Either on on_yes on_no) run =
    elim (holds (operand_value names on)) as (λ b. AllByRecursion (IsItem most_registers arrays) (if b then path_of names on_yes else path_of names on_no)) [
      | true ↦ path_runnable arrays names on_yes run.1
      | false ↦ path_runnable arrays names on_no run.2
    ]
path_runnable arrays names (At_leaf leaf) run = tt

-- no path has more items than the row
pub longest-items : (row : CodeRow) → longest row ≤ length (items_of row)
longest-items (Then item rest) = let h = longest-items rest in omega arith
longest-items (Either on on_yes on_no) =
    omega (arith, longest-items on_yes, longest-items on_no, length-append (items_of on_yes) (items_of on_no))
longest-items (At_leaf leaf) = omega arith

-- ---- in a well-formed code

pub code-runnable : (code : RowCode) (i : ℕ) (row : CodeRow) → WellFormed code → slice_get code.rows i ≡ Some row → IsRunnable (length code.arrays) row
code-runnable code i row well at =
    let is = all_at (IsRow code.limits code.registers (length code.arrays) (length code.rows)) code.rows i row well.rows at in
    let few = registers-most code.registers well.registers in
    runnable (length code.arrays) row
    (all_imply (IsItem code.registers (length code.arrays)) (IsItem most_registers (length code.arrays)) (items_of row)
    (λ item is. item_there code.registers (length code.arrays) item few is) is.items)
    (all_imply (IsOperand code.registers) (IsOperand most_registers) (tests_of row) (λ on is. operand_there code.registers on few is) is.operands)

pub code-short : (code : RowCode) (i : ℕ) (row : CodeRow) → WellFormed code → slice_get code.rows i ≡ Some row → longest row ≤ most_ops
code-short code i row well at =
    let is = all_at (IsRow code.limits code.registers (length code.arrays) (length code.rows)) code.rows i row well.rows at in
    omega (arith, longest-items row, is.ops, well.limits.ops.1)

pub code-one_effect : (code : RowCode) (i : ℕ) (row : CodeRow) (names : ℕ → ℤ) → WellFormed code → slice_get code.rows i ≡ Some row → count_by is_effect (path_of names row) ≤ 1
code-one_effect code i row names well at =
    let is = all_at (IsRow code.limits code.registers (length code.arrays) (length code.rows)) code.rows i row well.rows at in
    (path_taken names row IsPath is.paths).one_effect

-- the row at a place is the tree there
pub row-at : (trees shown : List (RowTree Leaf)) (i : ℕ) (tree : RowTree Leaf) → shown ≡ trees → i < length trees → tree ≡ get_or shown i tree → slice_get (rows_of trees) i ≡ Some (row_of tree)
row-at trees shown i tree same within is =
    slice_get-map row_of trees i
    ∙ ap (λ (o : Option (RowTree Leaf)). option_map row_of o) (slice_get_read trees (length trees) i tree refl within (is ∙ ap (λ (ts : List (RowTree Leaf)). get_or ts i tree) same))
