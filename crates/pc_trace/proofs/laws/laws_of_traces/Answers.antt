-- The law is a lemma.
use Rattle.pc_trace.proofs.Runs.{trace-is}
use Rattle.pc_trace.proofs.laws.laws_of_traces.Goals as goal

pub returns : goal.returns
returns c = trace-is
