use Rattle.pc_pass.proofs.Lists.{keeps_refl}
use Rattle.pc_tool_tests.proofs.passes.CountingPass.apply.Goals as goal

pub returns-clause-keeps : goal.returns-clause-keeps
returns-clause-keeps c = keeps_refl c.args._flow.now
