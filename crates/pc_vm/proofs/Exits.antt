-- The leaf by which a row of a well-formed code is left.
use Rattle.std.proofs.Common.{◌≡◌, ℕ, suc, ◌+◌, ◌<◌, ◌^◌, ◌++◌, List, length, Some, arith, length-append, refl, sym, subst}
use Rattle.std.specs.Prelude.{slice_get}
use Rattle.pc_word.proofs.Lists.{all_at}
use Rattle.pc_word.specs.Row.{Row, Then, Either, At_leaf, leaves_of, tests_of}
use Rattle.pc_machine.specs.declared.code.Code.{Code}
use Rattle.pc_machine.specs.MachineCode.{CodeRow, RowCode, code_of, rows_of}
use Rattle.pc_machine.specs.WellFormed.{IsRow, WellFormed}
use Rattle.pc_vm.specs.declared.exit.Exit.{Exit}
use Rattle.pc_vm.specs.Exits.{IsExit, exit_number}
use Rattle.pc_vm.specs.Standing.{Standing, here_of}
use Rattle.pc_vm.specs.Contents.{names_of}

-- a row has one leaf more than tests
pub length-leaves_of : {L : Type 0} (row : Row L) → length (leaves_of row) ≡ suc (length (tests_of row))
length-leaves_of (Then item rest) = length-leaves_of rest
length-leaves_of (Either on on_yes on_no) =
    omega (arith, length-append (leaves_of on_yes) (leaves_of on_no), length-append (tests_of on_yes) (tests_of on_no), length-leaves_of on_yes, length-leaves_of on_no)
length-leaves_of (At_leaf leaf) = refl

-- so few that they can be counted
pub code-few_leaves : (code : RowCode) (i : ℕ) (row : CodeRow) → WellFormed code → slice_get code.rows i ≡ Some row → length (leaves_of row) < 2 ^ 64
code-few_leaves code i row well at =
    let is = all_at (IsRow code.limits code.registers (length code.arrays) (length code.rows)) code.rows i row well.rows at in
    omega (arith, is.tests, well.limits.tests.1, length-leaves_of row)

-- the row that comes next, and the leaf of its path
pub is_exit : (standing : Standing) (row : CodeRow) (exit : Exit) → slice_get (rows_of standing.code.rows) standing.row ≡ Some row
    → exit.row ≡ standing.row → exit.leaf ≡ exit_number (names_of standing.held.registers) row → IsExit (code_of standing.code) (here_of standing) exit
is_exit standing row exit at next leaf = record { row = row; is_next = next; there = at; taken = leaf }
