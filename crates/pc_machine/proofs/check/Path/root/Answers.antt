use Rattle.pc_machine.proofs.Checks.{root_above}
use Rattle.pc_machine.specs.Registers.{most_registers}
use Rattle.pc_machine.proofs.check.Path.root.Goals as goal

pub returns : goal.returns
returns c = root_above most_registers
