use Rattle.pc_pass.specs.Pass.{Chain}
use Rattle.pc_middle.proofs.CutPrograms.{regions_agree, regions_never_fault}
use Rattle.pc_middle.proofs.laws.laws_of_cut_programs.Goals as goal

pub returns-clause-agree : goal.returns-clause-agree
returns-clause-agree g c = λ before after. regions_agree (Chain g.P.Pass.does g.P.Pass.changed before after)

pub returns-clause-faultless : goal.returns-clause-faultless
returns-clause-faultless g c = λ before after. regions_never_fault (Chain g.P.Pass.does g.P.Pass.changed before after)
