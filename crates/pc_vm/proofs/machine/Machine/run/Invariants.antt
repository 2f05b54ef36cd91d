use Rattle.std.proofs.Common.{◌≡◌, ◌≤◌, false}
use Rattle.pc_machine.specs.MachineCode.{code_of}
use Rattle.pc_machine.specs.MachineRun.{machine_step}
use Rattle.pc_vm.specs.Standing.{here_of}
use Rattle.pc_vm.proofs.Cycles.{Way}
use Rattle.pc_vm.proofs.machine.Machine.run.Given as goal

-- the cycles so far led from the start to where the machine stands, and their text was sent
abbrev pub invariant-loop : goal.invariant-loop
invariant-loop g l = record {
  going : l.self.over ≡ false;
  code : l.self.code ≡ l.initial.self.code;
  counted : g.O.Sink.faults l.initial.out ≤ g.O.Sink.faults l.out;
  way : Way (machine_step (code_of l.initial.self.code)) l.counter (here_of l.initial.self) (here_of l.self) (g.O.Sink.taken l.initial.out) (g.O.Sink.taken l.out);
}
