use Rattle.pc_pass.specs.Pass.{Chain}
use Rattle.pc_compile.proofs.SourcePace.{objects_keep_pace, objects_in_cycles}
use Rattle.pc_compile.proofs.laws.law_of_objects.Goals as goal

pub returns-clause-steps : goal.returns-clause-steps
returns-clause-steps g c = λ before after. objects_keep_pace (Chain g.P.Pass.does g.P.Pass.changed before after)

pub returns-clause-cycles : goal.returns-clause-cycles
returns-clause-cycles g c = λ before after. objects_in_cycles (Chain g.P.Pass.does g.P.Pass.changed before after)
