use Rattle.pc_meaning.proofs.Traces.{trace_of-prints, trace_of-reads}
use Rattle.pc_meaning.proofs.laws.laws_of_traces.Goals as goal

pub returns-clause-prints : goal.returns-clause-prints
returns-clause-prints c = trace_of-prints

pub returns-clause-reads : goal.returns-clause-reads
returns-clause-reads c = trace_of-reads
