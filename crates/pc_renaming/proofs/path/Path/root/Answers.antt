use Rattle.pc_machine.specs.Registers.{most_registers}
use Rattle.pc_renaming.specs.declared.kept.Kept.TheVariants.{Before}
use Rattle.std.proofs.Common.{false}
use Rattle.pc_renaming.proofs.Tables.{all_alike}
use Rattle.pc_renaming.proofs.path.Path.root.Goals as goal

pub returns-clause-kept : goal.returns-clause-kept
returns-clause-kept c = all_alike most_registers Before

pub returns-clause-written : goal.returns-clause-written
returns-clause-written c = all_alike most_registers false
