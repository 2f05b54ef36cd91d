use Rattle.std.proofs.Common.{None}
use Rattle.pc_machine.specs.Registers.{most_registers}
use Rattle.pc_renaming.proofs.Tables.{all_alike}
use Rattle.pc_renaming.proofs.homes.Homes.none.Goals as goal

pub returns : goal.returns
returns c = all_alike most_registers None
