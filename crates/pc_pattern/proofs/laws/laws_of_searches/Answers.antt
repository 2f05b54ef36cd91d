use Rattle.pc_pattern.proofs.OneStates.{patterns_one}
use Rattle.pc_pattern.proofs.Patterns.{searches_have_one_answer, searches_are_one}
use Rattle.pc_pattern.proofs.Traps.{traps_have_one_state}
use Rattle.pc_pattern.proofs.laws.laws_of_searches.Goals as goal

pub returns-clause-one_answer : goal.returns-clause-one_answer
returns-clause-one_answer c = searches_have_one_answer

pub returns-clause-one_search : goal.returns-clause-one_search
returns-clause-one_search c = searches_are_one

pub returns-clause-one_pattern : goal.returns-clause-one_pattern
returns-clause-one_pattern c = patterns_one

pub returns-clause-traps : goal.returns-clause-traps
returns-clause-traps c = traps_have_one_state
