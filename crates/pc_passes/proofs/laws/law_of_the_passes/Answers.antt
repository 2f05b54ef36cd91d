use Rattle.pc_passes.proofs.Chains.{the_passes_make}
use Rattle.pc_passes.proofs.laws.law_of_the_passes.Goals as goal

pub returns : goal.returns
returns g c = the_passes_make g.P.Pass.label g.P.Pass.changed g.P.Pass.does
