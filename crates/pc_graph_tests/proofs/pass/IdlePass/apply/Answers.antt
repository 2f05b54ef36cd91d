use Rattle.pc_pass.proofs.Lists.{keeps_refl}
use Rattle.pc_graph_tests.proofs.pass.IdlePass.apply.Goals as goal

pub returns-clause-keeps : goal.returns-clause-keeps
returns-clause-keeps c = keeps_refl c.args._flow.now
