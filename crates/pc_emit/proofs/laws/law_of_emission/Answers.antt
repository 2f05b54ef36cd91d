use Rattle.pc_emit.proofs.Emissions.{emitted_rows_do}
use Rattle.pc_emit.proofs.laws.law_of_emission.Goals as goal

pub returns : goal.returns
returns c = emitted_rows_do
