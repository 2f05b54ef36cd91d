-- What a code does, cycle by cycle.
use Rattle.std.specs.Prelude.{ℕ, ℤ, List, [], Option, Some, None, slice_get}
use Rattle.pc_word.specs.declared.item.End.TheVariants.{Ended, Trapped, Fault}
use Rattle.pc_word.specs.Run.{Run, Step, Goes, Stops, run_from}
use Rattle.pc_machine.specs.declared.tree.Leaf.{Leaf}
use Rattle.pc_machine.specs.declared.tree.Leaf.TheVariants.{Goto, Stop, Trap}
use Rattle.pc_machine.specs.MachineCode.{CodeRow, RowCode}
use Rattle.pc_word.specs.State.{State, start_state}
use Rattle.pc_word.specs.Row.{RowOutcome, Faults, Commits, row_step}

-- where a machine is: the row that comes next, and the state, whose names are the registers
pub record Cycle : Type 0 where
  pub row : ℕ
  pub state : State

-- a goto leads to its row, stop ends and trap traps
abbrev pub follow_leaf : List ℤ → State → Leaf → Step Cycle
follow_leaf out new (Goto row) = Goes out (record { row = row; state = new })
follow_leaf out new Stop = Stops out Ended
follow_leaf out new (Trap kind line) = Stops out (Trapped kind line)

-- a fault ends the run, and nothing of its row is printed
abbrev pub after_row : RowOutcome Leaf → Step Cycle
after_row (Faults fault) = Stops [] (Fault fault)
after_row (Commits out new leaf) = follow_leaf out new leaf

-- the row runs; a number that no row has, which no well-formed code leads to, ends
abbrev pub run_row : List ℕ → State → Option CodeRow → Step Cycle
run_row lengths state (Some row) = after_row (row_step lengths row state)
run_row lengths state None = Stops [] Ended

-- one cycle
abbrev pub machine_step : RowCode → Cycle → Step Cycle
machine_step code here = run_row code.arrays here.state (slice_get code.rows here.row)

-- row 0, with all registers 0, on arrays that begin with the code's data
abbrev pub machine_start : RowCode → List ℤ → Cycle
machine_start code input = record { row = 0; state = start_state code.initial input }

-- the run of a code on an input: at most n cycles
abbrev pub machine_run : RowCode → List ℤ → Run
machine_run code input n = run_from (machine_step code) n (machine_start code input)
