use Rattle.pc_machine.proofs.Flaws.{no_flaw}
use Rattle.pc_machine.proofs.MachineRuns.{machine_run-grows, machine_step-row}
use Rattle.pc_machine.proofs.laws.laws_of_codes.Goals as goal

pub returns : goal.returns
returns c = record { none = no_flaw; grows = machine_run-grows; cycles = machine_step-row }
