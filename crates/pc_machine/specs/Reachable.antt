-- Which rows of a code can come next at all: the entry, and each row that a leaf of such a row leads to.
use Rattle.std.specs.Prelude.{◌≡◌, ℕ, List, Contains, Some, slice_get}
use Rattle.pc_machine.specs.declared.tree.Leaf.TheVariants.{Goto}
use Rattle.pc_machine.specs.MachineCode.{CodeRow}
use Rattle.pc_word.specs.Row.{leaves_of}

-- a leaf of this row leads to the row with this number
abbrev pub HasLeafTo : CodeRow → ℕ → Type 0
HasLeafTo row number = Contains (leaves_of row) (Goto number)

-- the row with this number is row 0, or leaves lead to it from row 0
pub data IsReachable (rows : List CodeRow) : (number : ℕ) → Type 0 where
  Entry : IsReachable rows 0
  Behind : {from number : ℕ} {row : CodeRow} →
      IsReachable rows from →
      slice_get rows from ≡ Some row →
      HasLeafTo row number →
      IsReachable rows number
