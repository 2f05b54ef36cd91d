-- Laws of the counts. Each is the contract of a function of laws.rt, which does nothing.
use Rattle.std.specs.Prelude.{◌≡◌, ℕ, ◌+◌, ◌<◌, ◌≤◌, Bool, ◌&&◌, List, length, sum, Some, None, is_none, slice_get}
use Rattle.std.specs.List.{count_by}
use Rattle.pc_word.specs.declared.item.End.{End}
use Rattle.pc_word.specs.Run.{run_from}
use Rattle.pc_machine.specs.MachineCode.{CodeRow, RowCode}
use Rattle.pc_machine.specs.MachineRun.{Cycle, machine_step}
use Rattle.pc_machine.specs.WellFormed.{WellFormed}
use Rattle.pc_count.specs.Passages.{Passage, passages}
use Rattle.pc_count.specs.Counts.{begins_in, counts_of_leaves, row_counts, times_run}

-- the cycles of a run are the least number with which it has ended, or where it goes on, all that it may take
pub record AreItsCycles (code : RowCode) (n : ℕ) (here : Cycle) (cycles : ℕ) : Type 0 where
  pub few : cycles ≤ n
  pub going : (run_from (machine_step code) n here).end ≡ None → cycles ≡ n
  pub ended : (end : End) → (run_from (machine_step code) n here).end ≡ Some end → (run_from (machine_step code) cycles here).end ≡ Some end
  pub least : (fewer : ℕ) → fewer < cycles → (run_from (machine_step code) fewer here).end ≡ None

-- so it is of each run
abbrev pub CyclesAreLeast : Type 0
CyclesAreLeast = (code : RowCode) (n : ℕ) (here : Cycle) → AreItsCycles code n here (length (passages code n here))

-- the sum of the rows' counts is the cycles, from each row of a well-formed code
abbrev pub RowsAddUp : Type 0
RowsAddUp = (code : RowCode) (n : ℕ) (here : Cycle) → WellFormed code → here.row < length code.rows
    → sum (row_counts code.rows (passages code n here)) ≡ length (passages code n here)

-- whether a cycle faulted in a row
abbrev pub faults_in : ℕ → Passage → Bool
faults_in row passage = begins_in row passage && is_none passage.leaf

-- how many did
abbrev pub times_faulted : List Passage → ℕ → ℕ
times_faulted cycles row = count_by (faults_in row) cycles

-- the sum of the counts of a row's leaves, and the cycle that faulted in it, if one did, is the row's count
abbrev pub LeavesAddUp : Type 0
LeavesAddUp = (code : RowCode) (n : ℕ) (here : Cycle) (number : ℕ) (row : CodeRow) → slice_get code.rows number ≡ Some row
    → sum (counts_of_leaves (passages code n here) number row) + times_faulted (passages code n here) number ≡ times_run (passages code n here) number
