use Rattle.std.proofs.Common.{◌≡◌, false}
use Rattle.pc_machine.specs.MachineCode.{code_of}
use Rattle.pc_vm.specs.Standing.{here_of}
use Rattle.pc_count.proofs.Cycles.{Way}
use Rattle.pc_count.proofs.running.run.Given as goal

-- the machine goes on, and the cycles so far are counted
abbrev pub invariant-loop-cycle : goal.invariant-loop-cycle
invariant-loop-cycle l = record {
  going : l.machine.over ≡ false;
  code : l.machine.code ≡ l.initial.machine.code;
  way : Way (code_of l.initial.machine.code) l.budget l.cycle (here_of l.initial.machine) (here_of l.machine) l.rows l.leaves;
}
