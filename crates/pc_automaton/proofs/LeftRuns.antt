-- The run of an automaton that was left is the region's run.
use Rattle.std.proofs.Common.{◌≡◌, ℕ, zero, suc, List, refl, ap}
use Rattle.pc_word.specs.Run.{Seen, Step, Goes, Stops, after_printing, seen_of, run_from}
use Rattle.pc_table.specs.Table.{Table}
use Rattle.pc_table.specs.RegionRun.{Place, region_step}
use Rattle.pc_automaton.specs.Automaton.{AutomatonState}
use Rattle.pc_automaton.specs.AutomatonRun.{In_region, left_step, automaton_step}

pub left_is_region : (table : Table) (states : List AutomatonState) (n : ℕ) (place : Place)
    → run_from (automaton_step table states) n (In_region place) ≡ run_from (region_step table) n place
left_is_region table states zero place = refl
left_is_region table states (suc n) place = goes_on (region_step table place) (λ next. left_is_region table states n next)
  where
    goes_on : (step : Step Place) → ((next : Place) → run_from (automaton_step table states) n (In_region next) ≡ run_from (region_step table) n next)
        → seen_of (left_step step) (run_from (automaton_step table states) n) ≡ seen_of step (run_from (region_step table) n)
    goes_on (Goes out next) h = ap (λ (x : Seen). after_printing out x) (h next)
    goes_on (Stops out end) h = refl
