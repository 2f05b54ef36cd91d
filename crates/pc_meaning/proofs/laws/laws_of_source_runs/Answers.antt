use Rattle.pc_meaning.proofs.SourceRuns.{source_run-grows, source_run-faultless}
use Rattle.pc_meaning.proofs.LoopTests.{loop-enough}
use Rattle.pc_meaning.proofs.OnlyReads.{eval-only_reads}
use Rattle.pc_meaning.proofs.laws.laws_of_source_runs.Goals as goal

pub returns-clause-grows : goal.returns-clause-grows
returns-clause-grows c = source_run-grows

pub returns-clause-faultless : goal.returns-clause-faultless
returns-clause-faultless c = source_run-faultless

pub returns-clause-turns : goal.returns-clause-turns
returns-clause-turns c = loop-enough

pub returns-clause-expressions : goal.returns-clause-expressions
returns-clause-expressions c = eval-only_reads
