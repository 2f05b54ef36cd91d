-- Rows and codes as plain data, without the pointers that hold a tree together in memory.
use Rattle.std.specs.Prelude.{ℕ, ℤ, Bool, false, nat_eq, List, [], length, map, replicate, Option, Some, None}
use Rattle.pc_word.specs.declared.item.Limits.{Limits}
use Rattle.pc_word.specs.declared.row_tree.RowTree.{RowTree}
use Rattle.pc_word.specs.Row.{Row}
use Rattle.pc_word.specs.StoredRow.{row_in}
use Rattle.pc_machine.specs.declared.tree.Leaf.{Leaf}
use Rattle.pc_machine.specs.declared.tree.Leaf.TheVariants.{Goto, Stop, Trap}
use Rattle.pc_machine.specs.declared.code.Code.{Code}
use Rattle.pc_machine.specs.Registers.{few_registers}

-- the row to which a leaf leads, if it is a goto
abbrev pub target_of : Leaf → Option ℕ
target_of (Goto row) = Some row
target_of Stop = None
target_of (Trap kind line) = None

-- whether a leaf leads to the row with this number
abbrev pub is_goto : ℕ → Leaf → Bool
is_goto target (Goto row) = nat_eq row target
is_goto target Stop = false
is_goto target (Trap kind line) = false

-- a row of the machine: a row whose leaves say what comes next
abbrev pub CodeRow : Type 0
CodeRow = Row Leaf

-- a code: the limits of its rows, how many registers it has, the lengths of its arrays and the words with which each begins, and
-- its rows by number
pub record RowCode : Type 0 where
  pub limits : Limits
  pub registers : ℕ
  pub arrays : List ℕ
  pub initial : List (List ℤ)
  pub rows : List CodeRow

-- the code of rows that need no more than the fewer registers, over arrays that begin with 0 alone
abbrev pub code_without_data : Limits → List ℕ → List CodeRow → RowCode
code_without_data limits arrays rows =
    record { limits = limits; registers = few_registers; arrays = arrays; initial = replicate (length arrays) []; rows = rows }

-- the row that a tree in memory is
abbrev pub row_of : RowTree Leaf → CodeRow
row_of tree = row_in (λ leaf. leaf) tree

-- the rows of a list of trees
abbrev pub rows_of : List (RowTree Leaf) → List CodeRow
rows_of trees = map row_of trees

-- the code that a code in memory is
abbrev pub code_of : Code → RowCode
code_of code =
    record { limits = code.limits; registers = code.registers; arrays = code.arrays; initial = code.initial; rows = rows_of code.rows }
