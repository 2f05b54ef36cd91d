-- What the automaton of a packed region keeps, with registers for its names.
use Rattle.std.specs.Prelude.{◌≡◌, ℕ, true, nat_eq, List, Option, Some, slice_get}
use Rattle.std.specs.List.{AllByRecursion, list_any}
use Rattle.pc_word.specs.Run.{NeverFaults}
use Rattle.pc_word.specs.State.{State}
use Rattle.pc_table.specs.Table.{Table, Next, region_live}
use Rattle.pc_table.specs.RegionRun.{region_run}
use Rattle.pc_automaton.specs.Automaton.{AutomatonState, IsAutomaton}
use Rattle.pc_automaton.specs.There.{StateIsThere}
use Rattle.pc_automaton.specs.RunsAsRegion.{RunsAlike}
use Rattle.pc_assign.specs.Assigned.{Registers}
use Rattle.pc_assign.specs.Apart.{IsApart}
use Rattle.pc_emit.specs.Emitted.{RegionForm, Plain, ByAutomaton}

-- the automaton of a region, and registers for its names: names that are live together have different ones, and the first state
-- is passed variables that are live at the region's head, each in the register of its number
pub record IsPackedForm (table : Table) (region : ℕ) (states : List AutomatonState) (registers : Registers) : Type 0 where
  pub automaton : IsAutomaton states
  pub first : AutomatonState
  pub is_first : slice_get states 0 ≡ Some first
  pub runs : (s : State) → NeverFaults (region_run table (Next region) s) → RunsAlike table region states s
  pub live : AllByRecursion (λ variable. list_any (nat_eq variable) (region_live table region) ≡ true) first.parameters
  pub variables : AllByRecursion (λ variable. registers.of 0 variable ≡ Some variable) first.parameters
  pub apart : (number : ℕ) (state : AutomatonState) → slice_get states number ≡ Some state → IsApart registers.scratch (registers.of number) state
  pub there : AllByRecursion (StateIsThere table) states

-- a form that a region may have
abbrev pub IsRegionForm : Table → ℕ → RegionForm → Type 0
IsRegionForm table region Plain = Unit {0}
IsRegionForm table region (ByAutomaton states registers) = IsPackedForm table region states registers
