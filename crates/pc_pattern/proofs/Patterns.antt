-- The laws of searches, and what a search finds.
use Rattle.std.proofs.Common.{ℕ, List, arith}
use Rattle.pc_table.specs.TableKeeps.{TableKeeps}
use Rattle.pc_window.specs.Steps.{Positive}
use Rattle.pc_automaton.specs.Automaton.{AutomatonState}
use Rattle.pc_automaton.specs.Reachable.{EachIsReachable}
use Rattle.pc_automaton.specs.RowFits.{RowFits}
use Rattle.pc_pattern.specs.Searches.{Rules, IsPattern}
use Rattle.pc_pattern.specs.Pattern.{IsFound}
use Rattle.pc_pattern.specs.Laws.{PatternsRunAsTheRegion, PatternsHaveNoEmptyStates, PatternsFit, PatternsAreAutomata, SearchesHaveOneAnswer}
use Rattle.pc_pattern.specs.Laws.{SearchesAreOne}
use Rattle.pc_pattern.proofs.Members.{no_empty_states}
use Rattle.pc_pattern.proofs.FirstRows.{first_untested}
use Rattle.pc_pattern.proofs.FirstRuns.{runs_alike}
use Rattle.pc_pattern.proofs.RowsFit.{states_fit}
use Rattle.pc_pattern.proofs.Automata.{all_from_places, are_automaton}
use Rattle.pc_pattern.proofs.NamedThere.{patterns_there, patterns_live}
use Rattle.pc_pattern.proofs.Determinism.{search_one, one_answer}

pub patterns_run : PatternsRunAsTheRegion
patterns_run rules keeps room region rows states p = record {
  alike = runs_alike rules keeps room region p.members states p.closed p.automates;
  untested = first_untested rules keeps room region p.members states p.closed p.automates;
}

pub patterns_no_empty : PatternsHaveNoEmptyStates
patterns_no_empty rules keeps room region rows states p at state here =
    no_empty_states rules keeps room region p.members states p.closed p.automates at state here

pub patterns_fit : PatternsFit
patterns_fit rules keeps room region rows states p =
    all_from_places (λ (state : AutomatonState). RowFits rules.limits state.row) states
    (λ i state at. states_fit rules region keeps room p.members states p.closed p.automates i state at)

pub patterns_are_automata : PatternsAreAutomata
patterns_are_automata rules keeps room region rows states p =
    are_automaton rules keeps room region p.members states p.closed p.automates

pub searches_have_one_answer : SearchesHaveOneAnswer
searches_have_one_answer rules region rows states p q = one_answer rules region rows states p q

pub searches_are_one : SearchesAreOne
searches_are_one rules region steps members others taken taken' lefts lefts' p q =
    let h = search_one rules p q in (h.windows, h.taken, h.leaves)

-- the states of a closed search are found
pub are_found : (rules : Rules) → TableKeeps rules.table → Positive rules.limits → (region rows : ℕ) (states : List AutomatonState)
    → IsPattern rules region rows states → EachIsReachable states → IsFound rules region rows states
are_found rules keeps room region rows states pattern led = record {
  pattern = pattern;
  few = (let few = pattern.few in let many = pattern.automates.as_many in omega (arith, few, many));
  automaton = patterns_are_automata rules keeps room region rows states pattern;
  runs = patterns_run rules keeps room region rows states pattern;
  fits = patterns_fit rules keeps room region rows states pattern;
  no_empty = patterns_no_empty rules keeps room region rows states pattern;
  led = led;
  there = patterns_there rules keeps room region rows states pattern;
  live = patterns_live rules keeps room region rows states pattern;
}
