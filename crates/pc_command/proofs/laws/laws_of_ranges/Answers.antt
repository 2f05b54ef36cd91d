-- The laws are lemmas.
use Rattle.pc_command.proofs.InRange.{check_command_of-range, compile_command_of-range, explain_command_of-range, simulate_command_of-range, stat_command_of-range}
use Rattle.pc_command.proofs.laws.laws_of_ranges.Goals as goal

pub returns-clause-compiler : goal.returns-clause-compiler
returns-clause-compiler c = compile_command_of-range

pub returns-clause-simulator : goal.returns-clause-simulator
returns-clause-simulator c = simulate_command_of-range

pub returns-clause-profiler : goal.returns-clause-profiler
returns-clause-profiler c = stat_command_of-range

pub returns-clause-checker : goal.returns-clause-checker
returns-clause-checker c = check_command_of-range

pub returns-clause-explainer : goal.returns-clause-explainer
returns-clause-explainer c = explain_command_of-range
