-- The laws are lemmas.
use Rattle.pc_command.proofs.Whole.{assemble_matches-whole, check_matches-whole, compile_matches-whole, explain_matches-whole, simulate_matches-whole, stat_matches-whole, view_matches-whole}
use Rattle.pc_command.proofs.laws.laws_of_matches.Goals as goal

pub returns-clause-compiler : goal.returns-clause-compiler
returns-clause-compiler c = compile_matches-whole

pub returns-clause-assembler : goal.returns-clause-assembler
returns-clause-assembler c = assemble_matches-whole

pub returns-clause-simulator : goal.returns-clause-simulator
returns-clause-simulator c = simulate_matches-whole

pub returns-clause-viewer : goal.returns-clause-viewer
returns-clause-viewer c = view_matches-whole

pub returns-clause-profiler : goal.returns-clause-profiler
returns-clause-profiler c = stat_matches-whole

pub returns-clause-checker : goal.returns-clause-checker
returns-clause-checker c = check_matches-whole

pub returns-clause-explainer : goal.returns-clause-explainer
returns-clause-explainer c = explain_matches-whole
