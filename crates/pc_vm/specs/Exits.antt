-- By which leaf a cycle leaves its row. Leaves are numbered from 0, in preorder.
use Rattle.std.specs.Prelude.{◌≡◌, ℕ, ◌+◌, ℤ, if◌then◌else◌, length, Some, slice_get}
use Rattle.pc_word.specs.Items.{operand_value}
use Rattle.pc_word.specs.Row.{Row, Then, Either, At_leaf, leaves_of}
use Rattle.pc_word.specs.Word.{holds}
use Rattle.pc_machine.specs.MachineCode.{CodeRow, RowCode}
use Rattle.pc_machine.specs.MachineRun.{Cycle}
use Rattle.pc_vm.specs.declared.exit.Exit.{Exit}

-- the number of the leaf of the path that is taken: on the no side of a test all leaves of its yes side come before
abbrev pub exit_number : {L : Type 0} → (ℕ → ℤ) → Row L → ℕ
exit_number names (Then item rest) = exit_number names rest
exit_number names (Either on on_yes on_no) =
    if holds (operand_value names on) then exit_number names on_yes else length (leaves_of on_yes) + exit_number names on_no
exit_number names (At_leaf leaf) = 0

-- an exit names the row that comes next, which is there, and the leaf of the path that is taken through it
pub record IsExit (code : RowCode) (here : Cycle) (exit : Exit) : Type 0 where
  pub row : CodeRow
  pub is_next : exit.row ≡ here.row
  pub there : slice_get code.rows here.row ≡ Some row
  pub taken : exit.leaf ≡ exit_number here.state.names row
