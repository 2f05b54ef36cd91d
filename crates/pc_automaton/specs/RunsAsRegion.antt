-- When an automaton does what its region does, and is not behind it.
use Rattle.std.specs.Prelude.{ℕ, List}
use Rattle.pc_word.specs.State.{State}
use Rattle.pc_word.specs.Row.{Row, At_leaf}
use Rattle.pc_word.specs.Run.{Agree}
use Rattle.pc_table.specs.Table.{Table, Next}
use Rattle.pc_table.specs.RegionRun.{region_run}
use Rattle.pc_table.specs.TableKeeps.{ComesUntested}
use Rattle.pc_window.specs.Kept.{KeepsPace}
use Rattle.pc_automaton.specs.declared.automaton.AutomatonLeaf.{AutomatonLeaf}
use Rattle.pc_automaton.specs.declared.automaton.AutomatonLeaf.TheVariants.{To, Out}
use Rattle.pc_automaton.specs.Automaton.{AutomatonState}
use Rattle.pc_automaton.specs.AutomatonRun.{automaton_run}

-- From a state: the automaton's run agrees with the region's, and n rows show what n units of the region show
pub record RunsAlike (table : Table) (region : ℕ) (states : List AutomatonState) (s : State) : Type 0 where
  pub agree : Agree (automaton_run table states s) (region_run table (Next region) s)
  pub pace : KeepsPace (region_run table (Next region) s) (automaton_run table states s)

-- where a first row has neither item nor test, it leads out to a region to which its own leads without a test, or it is an end
abbrev pub LeadsUntested : Table → ℕ → Row AutomatonLeaf → Type 0
LeadsUntested table region (At_leaf (Out to homes)) = ComesUntested table region to
LeadsUntested table region (At_leaf (To number arguments)) = ⊥
LeadsUntested table region row = Unit {0}
