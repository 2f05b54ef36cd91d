use Rattle.pc_pass.specs.Pass.{Chain}
use Rattle.pc_tool.proofs.CompilerStatuses.{statuses_of}
use Rattle.pc_tool.specs.Scheduled.{IsScheduledAs}
use Rattle.pc_tool.proofs.laws.laws_of_the_compiler.Goals as goal

pub returns : goal.returns
returns g c = λ before after handed given. statuses_of given (IsScheduledAs (Chain g.P.Pass.does g.P.Pass.changed before after) handed)
