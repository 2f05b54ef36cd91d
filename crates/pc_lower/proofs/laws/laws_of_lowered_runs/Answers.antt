use Rattle.pc_lower.proofs.Programs.{lowered_runs_agree, lowered_runs_pass_the_trace, lowered_runs_keep_pace, lowered_runs_are_faultless}
use Rattle.pc_lower.proofs.laws.laws_of_lowered_runs.Goals as goal

pub returns-clause-agree : goal.returns-clause-agree
returns-clause-agree c = lowered_runs_agree

pub returns-clause-faultless : goal.returns-clause-faultless
returns-clause-faultless c = lowered_runs_are_faultless

pub returns-clause-trace : goal.returns-clause-trace
returns-clause-trace c = lowered_runs_pass_the_trace

pub returns-clause-pace : goal.returns-clause-pace
returns-clause-pace c = lowered_runs_keep_pace
