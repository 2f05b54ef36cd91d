-- A region's tree that comes into a window, part by part.
use Rattle.std.specs.Prelude.{◌≡◌, ℕ, ◌+◌, ◌<◌, ◌≤◌, ◌^◌, length, Option}
use Rattle.pc_word.specs.declared.item.Operand.{Operand}
use Rattle.pc_table.specs.Table.{TableTree, Table}
use Rattle.pc_table.specs.TableKeeps.{units}
use Rattle.pc_window.specs.declared.names.NameTable.{NameTable}
use Rattle.pc_window.specs.Tree.{Tree}
use Rattle.pc_window.specs.Opening.{Supply, Grafted, graft}

-- a region's tree comes to this tree, and to these names
abbrev pub Grafts : Table → Option ℕ → ℕ → TableTree → Supply → (ℕ → Operand) → Tree → Supply → Type 0
Grafts table loop tag from names homes tree later =
    (let it : Grafted = record { tree = tree; names = later } in it) ≡ graft table loop tag from names homes

-- there is room for a name and a form variable for each item and test of a tree
pub record HasNames (it : NameTable) (tree : TableTree) : Type 0 where
  pub names : length it.forms + units tree < 2 ^ 31
  pub variables : it.next_variable + units tree < 2 ^ 31

-- no more of them were taken
pub record TakesNames (tree : TableTree) (old new : NameTable) : Type 0 where
  pub names : length new.forms ≤ length old.forms + units tree
  pub variables : new.next_variable ≤ old.next_variable + units tree
