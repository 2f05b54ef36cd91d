use Rattle.std.proofs.Common.{◌≡◌, false, string_bytes}
use Rattle.pc_machine.specs.MachineCode.{code_of}
use Rattle.pc_vm.specs.Standing.{here_of}
use Rattle.pc_trace.proofs.Texts.{IsTold}
use Rattle.pc_trace.proofs.text.trace_text.Given as goal

-- the machine goes on, and the cycles so far are told
abbrev pub invariant-loop-number : goal.invariant-loop-number
invariant-loop-number l = record {
  going : l.machine.over ≡ false;
  code : l.machine.code ≡ l.initial.machine.code;
  told : IsTold (code_of l.initial.machine.code) l.cycles l.number (here_of l.initial.machine) (here_of l.machine) (string_bytes l.text);
}
