-- What a search finds: the automaton of a region, and what it keeps.
use Rattle.std.specs.Prelude.{◌≡◌, ℕ, suc, ◌≤◌, true, nat_eq, List, length, map, Some, slice_get}
use Rattle.std.specs.List.{AllByRecursion, list_any}
use Rattle.pc_word.specs.Run.{NeverFaults}
use Rattle.pc_word.specs.declared.item.Limits.{Limits}
use Rattle.pc_word.specs.State.{State}
use Rattle.pc_table.specs.Table.{Table, Next, region_live}
use Rattle.pc_table.specs.RegionRun.{region_run}
use Rattle.pc_window.specs.Kept.{HasItems}
use Rattle.pc_automaton.specs.Automaton.{AutomatonState, IsAutomaton}
use Rattle.pc_automaton.specs.There.{StateIsThere}
use Rattle.pc_automaton.specs.RunsAsRegion.{RunsAlike, LeadsUntested}
use Rattle.pc_automaton.specs.Reachable.{EachIsReachable}
use Rattle.pc_automaton.specs.RowFits.{RowFits}
use Rattle.pc_pattern.specs.declared.error.SearchError.{SearchError}
use Rattle.pc_pattern.specs.declared.member_key.MemberKey.{MemberKey}
use Rattle.pc_pattern.specs.declared.error.SearchError.TheVariants.{Memory, NoPattern}
use Rattle.pc_pattern.specs.Searches.{Rules, IsPattern, HasKeys}

-- the rules of a search within these limits, with this window number
abbrev pub rules_for : Table → Limits → (number : ℕ) → Rules
rules_for table limits number = record { table = table; limits = limits; number = number }

-- each state but the first has an item or a test
abbrev pub NoneIsEmpty : List AutomatonState → Type 0
NoneIsEmpty states = (at : ℕ) (state : AutomatonState) → slice_get states (suc at) ≡ Some state → HasItems state.row

-- from every state from which the region's run never faults, the states do what the region does, and are not behind it; the
-- first leads out without an item or test only to a region to which its own leads without a test
pub record RunsAsTheRegion (table : Table) (region : ℕ) (states : List AutomatonState) : Type 0 where
  pub alike : (s : State) → NeverFaults (region_run table (Next region) s) → RunsAlike table region states s
  pub untested : (first : AutomatonState) → slice_get states 0 ≡ Some first → LeadsUntested table region first.row

-- the first state is passed variables that are live at the region's head
abbrev pub BeginsLive : Table → (region : ℕ) → List AutomatonState → Type 0
BeginsLive table region states = (first : AutomatonState) → slice_get states 0 ≡ Some first
    → AllByRecursion (λ variable. list_any (nat_eq variable) (region_live table region) ≡ true) first.parameters

-- what a search finds within so many rows: the automaton of the closed members, which does what the region does
pub record IsFound (rules : Rules) (region rows : ℕ) (states : List AutomatonState) : Type 0 where
  pub pattern : IsPattern rules region rows states
  pub few : length states ≤ rows
  pub automaton : IsAutomaton states
  pub runs : RunsAsTheRegion rules.table region states
  pub fits : AllByRecursion (λ state. RowFits rules.limits state.row) states
  pub no_empty : NoneIsEmpty states
  pub led : EachIsReachable states
  pub there : AllByRecursion (StateIsThere rules.table) states
  pub live : BeginsLive rules.table region states

-- why there is none: want of memory, or more members than so many, with their keys
abbrev pub IsNotFound : Rules → (region rows : ℕ) → SearchError → Type 0
IsNotFound rules region rows Memory = Unit {0}
IsNotFound rules region rows (NoPattern reached) = HasKeys rules region rows (map (λ (key : MemberKey). key.bytes.items) reached)
