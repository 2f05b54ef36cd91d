-- When a code is well formed: it keeps the machine's limits and its own.
use Rattle.std.specs.Prelude.{ℕ, ◌<◌, ◌≤◌, nat_eq, List, length, sum}
use Rattle.std.specs.List.{AllByRecursion, count_by, filter_map, IsDistinct}
use Rattle.pc_word.specs.declared.item.Item.{Item}
use Rattle.pc_word.specs.declared.item.Item.TheVariants.{Bin, Copy, Load, Store, Print, Read, More}
use Rattle.pc_word.specs.declared.item.Operand.{Operand}
use Rattle.pc_word.specs.declared.item.Operand.TheVariants.{Name, Lit}
use Rattle.pc_word.specs.declared.item.Limits.{Limits}
use Rattle.pc_machine.specs.declared.tree.Leaf.{Leaf}
use Rattle.pc_machine.specs.declared.tree.Leaf.TheVariants.{Goto, Stop, Trap}
use Rattle.pc_machine.specs.MachineCode.{CodeRow, RowCode}
use Rattle.pc_word.specs.Row.{items_of, leaves_of, paths_of, tests_of}
use Rattle.pc_word.specs.Items.{dest_of, is_effect, is_memory}
use Rattle.pc_word.specs.MachineLimits.{most_arrays, most_elements, most_length}
use Rattle.pc_machine.specs.Registers.{IsRegisterCount}
use Rattle.pc_word.specs.Data.{AreData}
use Rattle.pc_word.specs.Ranges.{AreLimits, IsBetween}

-- ---- what a row keeps

-- a register that is there, of so many, or a literal
abbrev pub IsOperand : ℕ → Operand → Type 0
IsOperand registers (Name register) = register < registers
IsOperand registers (Lit value) = Unit {0}

-- registers and arrays that are there, of so many registers and so many arrays
abbrev pub IsItem : ℕ → ℕ → Item → Type 0
IsItem registers arrays (Bin op dest left right) = (dest < registers) × IsOperand registers left × IsOperand registers right
IsItem registers arrays (Copy dest from) = (dest < registers) × IsOperand registers from
IsItem registers arrays (Load dest array index) = (dest < registers) × (array < arrays) × IsOperand registers index
IsItem registers arrays (Store array index value) = (array < arrays) × IsOperand registers index × IsOperand registers value
IsItem registers arrays (Print value) = IsOperand registers value
IsItem registers arrays (Read dest) = dest < registers
IsItem registers arrays (More dest) = dest < registers

-- a goto leads to one of so many rows
abbrev pub IsLeaf : ℕ → Leaf → Type 0
IsLeaf rows (Goto row) = row < rows
IsLeaf rows Stop = Unit {0}
IsLeaf rows (Trap kind line) = Unit {0}

-- no register is written twice, and at most one item is a print, read or more
pub record IsPath (path : List Item) : Type 0 where
  pub writes_once : IsDistinct nat_eq (filter_map dest_of path)
  pub one_effect : count_by is_effect path ≤ 1

-- a row of a code with these limits, so many registers, so many arrays and so many rows: its whole tree keeps the limits
pub record IsRow (limits : Limits) (registers arrays rows : ℕ) (row : CodeRow) : Type 0 where
  pub ops : length (items_of row) ≤ limits.ops
  pub tests : length (tests_of row) ≤ limits.tests
  pub mem : count_by is_memory (items_of row) ≤ limits.mem
  pub items : AllByRecursion (IsItem registers arrays) (items_of row)
  pub operands : AllByRecursion (IsOperand registers) (tests_of row)
  pub leaves : AllByRecursion (IsLeaf rows) (leaves_of row)
  pub paths : AllByRecursion IsPath (paths_of row)

-- ---- the code

-- at most 32 arrays of 1 to 65536 elements, and 1048576 elements in all
pub record AreArrays (lengths : List ℕ) : Type 0 where
  pub count : length lengths ≤ most_arrays
  pub each : AllByRecursion (IsBetween 1 most_length) lengths
  pub elements : sum lengths ≤ most_elements

-- its limits, registers, arrays and data are the machine's, it has an entry, and each row keeps its limits
pub record WellFormed (code : RowCode) : Type 0 where
  pub limits : AreLimits code.limits
  pub registers : IsRegisterCount code.registers
  pub arrays : AreArrays code.arrays
  pub initial : AreData code.arrays code.initial
  pub entry : 1 ≤ length code.rows
  pub rows : AllByRecursion (IsRow code.limits code.registers (length code.arrays) (length code.rows)) code.rows
