use Rattle.std.proofs.Common.{◌≡◌, ◌+◌, ◌≤◌, drop}
use Rattle.std.specs.Prelude.{sum}
use Rattle.pc_machine.specs.MachineCode.{rows_of}
use Rattle.pc_count.specs.Work.{copy_cycles, copy_cycles_besides}
use Rattle.pc_count.proofs.work.copy_cycles_of.Given as goal

-- the cycles of the rows so far, and those of the rows from here on, are all
abbrev pub invariant-loop-number : goal.invariant-loop-number
invariant-loop-number l = record {
  is : copy_cycles_besides l.cycles (rows_of (drop l.number l.rows)) (drop l.number l.counts) ≡ copy_cycles (rows_of l.rows) l.counts;
  few : l.cycles + sum (drop l.number l.counts) ≤ sum l.counts;
}
