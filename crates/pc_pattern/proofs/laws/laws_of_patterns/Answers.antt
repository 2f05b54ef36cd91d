use Rattle.pc_pattern.proofs.Patterns.{patterns_run, patterns_no_empty, patterns_fit, patterns_are_automata}
use Rattle.pc_pattern.proofs.NamedThere.{patterns_there, patterns_live}
use Rattle.pc_pattern.proofs.laws.laws_of_patterns.Goals as goal

pub returns-clause-runs : goal.returns-clause-runs
returns-clause-runs c = patterns_run

pub returns-clause-no_empty : goal.returns-clause-no_empty
returns-clause-no_empty c = patterns_no_empty

pub returns-clause-fit : goal.returns-clause-fit
returns-clause-fit c = patterns_fit

pub returns-clause-automata : goal.returns-clause-automata
returns-clause-automata c = patterns_are_automata

pub returns-clause-there : goal.returns-clause-there
returns-clause-there c = patterns_there

pub returns-clause-live : goal.returns-clause-live
returns-clause-live c = patterns_live
