-- That the search by which a region got its form finds states, and what is added to them.
use Rattle.std.specs.Prelude.{◌≡◌, ℕ, List, Option, Some, None}
use Rattle.std.specs.List.{AllByRecursion}
use Rattle.pc_word.specs.declared.item.Extent.{Extent}
use Rattle.pc_word.specs.declared.item.Limits.{Limits}
use Rattle.pc_flow.specs.FlowGraph.{FlowGraph}
use Rattle.pc_table.specs.Table.{Table}
use Rattle.pc_automaton.specs.Automaton.{AutomatonState, states_in}
use Rattle.pc_pattern.specs.Pattern.{rules_for}
use Rattle.pc_pattern.specs.Searches.{IsPattern}
use Rattle.pc_told.specs.declared.telling.Told.{Told}
use Rattle.pc_told.specs.Tellings.{tellings_in}
use Rattle.pc_variables.specs.Holdings.{variables_of}
use Rattle.pc_cycles.specs.Cycles.{IsCycle, NoneIsPassedOver}
use Rattle.pc_explain.specs.declared.explanation.Schedule.{Schedule}

-- a search of this extent, if it is one, finds states
abbrev pub IsSearched : Table → Limits → (region : ℕ) → Option Extent → Type 0
IsSearched table limits region None = Unit {0}
IsSearched table limits region (Some extent) =
    (states : List AutomatonState) × IsPattern (rules_for table limits extent.window) region extent.rows states

-- a schedule has the states that a search told of, the scalars that their names hold, and all their cycles
pub record IsCompleted (flow : FlowGraph) (limits : Limits) (told : Told) (schedule : Schedule) : Type 0 where
  pub same : schedule.told ≡ told
  pub held : schedule.variables ≡ variables_of flow (states_in told.automaton) (tellings_in told.rows)
  pub cycles : AllByRecursion (IsCycle limits (states_in told.automaton) (tellings_in told.rows) told.waiting) schedule.cycles
  pub all_cycles : NoneIsPassedOver (states_in told.automaton) schedule.cycles
