-- The schedule of forms that were chosen keeps pace with the regions: n of its steps show what n items and tests of the regions show.
use Rattle.std.proofs.Common.{◌≡◌, ℕ, zero, suc, ◌⊎◌, inl, inr, List, [], Option, Some, None, refl, sym, ◌∙◌, ap, subst}
use Rattle.std.specs.Prelude.{ℤ, slice_get}
use Rattle.pc_word.specs.declared.item.Extent.{Extent}
use Rattle.pc_word.specs.declared.item.Limits.{Limits}
use Rattle.pc_word.specs.Run.{Seen, Answers, after_printing, seen_of, run_from, NeverFaults}
use Rattle.pc_word.proofs.Runs.{Answers-after}
use Rattle.pc_word.specs.State.{State, start_state}
use Rattle.pc_word.specs.Items.{operand_value}
use Rattle.pc_word.specs.Row.{RowOutcome, Faults, Commits, item_step, row_step}
use Rattle.pc_table.specs.Table.{TableTree, Does, Asks, Next, Stops_here, Traps_here, Table, region_tree}
use Rattle.pc_table.specs.RegionRun.{lead_on, side_of, place_at, region_step, region_run}
use Rattle.pc_table.specs.TableKeeps.{TableKeeps}
use Rattle.pc_window.specs.Tree.{home_state}
use Rattle.pc_window.proofs.Paces.{answer_of_answer, NeverFaults-follows}
use Rattle.pc_automaton.specs.declared.automaton.AutomatonLeaf.{AutomatonLeaf}
use Rattle.pc_automaton.specs.declared.automaton.AutomatonLeaf.TheVariants.{To, Out, Stop, Trap}
use Rattle.pc_automaton.specs.Automaton.{AutomatonState}
use Rattle.pc_automaton.specs.AutomatonRun.{AutomatonPlace, At_state as At_row, passed_state, state_parameters, leaf_step, outcome_step, state_step, automaton_step, automaton_run}
use Rattle.pc_automaton.specs.RunsAsRegion.{RunsAlike}
use Rattle.pc_automaton.proofs.LeftRuns.{left_is_region}
use Rattle.pc_pattern.specs.Pattern.{rules_for}
use Rattle.pc_assign.specs.Assigned.{Registers}
use Rattle.pc_emit.specs.Emitted.{RegionForm, Plain, ByAutomaton}
use Rattle.pc_emit.proofs.PlainRuns.{IsRoot, roots}
use Rattle.pc_compile.specs.declared.choice.Choice.{Choice}
use Rattle.pc_compile.specs.Choosing.{bytes_with, HasRegisters, Choosing, Begins, Takes, Gets}
use Rattle.pc_compile.specs.ScheduleRun.{SchedulePlace, At_tree, At_state, begins_in, begins_at, behind, schedule_leaf_step, schedule_outcome_step, schedule_state_step, schedule_step}
use Rattle.pc_compile.specs.Laws.{SchedulesKeepPaceWithTheRegions}
use Rattle.pc_compile.proofs.Attempts.{form_found}
use Rattle.pc_compile.proofs.Taken.{form_among}

-- ---- one step at a time

module _ (table : Table) (keeps : TableKeeps table) (forms : ℕ → Option RegionForm)
    (alike : (region : ℕ) (states : List AutomatonState) (registers : Registers) → forms region ≡ Some (ByAutomaton states registers)
    → (s : State) → NeverFaults (region_run table (Next region) s) → RunsAlike table region states s) where
  abbrev schedule : ℕ → SchedulePlace → Seen
  schedule n place = run_from (schedule_step table forms) n place

  abbrev rows : List AutomatonState → ℕ → AutomatonPlace → Seen
  rows states n place = run_from (automaton_step table states) n place

  -- n steps from where a region begins show what n units of the region show
  abbrev RegionsPaced : ℕ → Type 0
  RegionsPaced n = (region : ℕ) (s : State) → NeverFaults (region_run table (Next region) s)
      → Answers (region_run table (Next region) s n) (schedule n (begins_at table forms region s)) (region_run table (Next region) s n).end

  -- the same from what is left of a plain region's tree
  abbrev TreesPaced : ℕ → Type 0
  TreesPaced n = (tree : TableTree) → IsRoot tree → (s : State) → NeverFaults (region_run table tree s)
      → Answers (region_run table tree s n) (schedule n (At_tree tree s)) (region_run table tree s n).end

  -- and from a state of a region's automaton, where n rows and what follows the automaton are shown
  abbrev StatesPaced : ℕ → Type 0
  StatesPaced n = (region : ℕ) (states : List AutomatonState) (number : ℕ) (s : State) → NeverFaults (λ k. rows states k (At_row number s))
      → Answers (rows states n (At_row number s)) (schedule n (At_state region states number s)) (rows states n (At_row number s)).end

  -- ---- plain regions

  behind_paced : (n : ℕ) → TreesPaced n → RegionsPaced n → (tree : TableTree) (s : State) → NeverFaults (region_run table tree s)
      → Answers (region_run table tree s n) (schedule n (behind table forms tree s)) (region_run table tree s n).end
  behind_paced n trees regions (Does origin item rest) s never = trees (Does origin item rest) tt s never
  behind_paced n trees regions (Asks origin on on_yes on_no) s never = trees (Asks origin on on_yes on_no) tt s never
  behind_paced n trees regions (Next region) s never = regions region s never
  behind_paced n trees regions Stops_here s never = trees Stops_here tt s never
  behind_paced n trees regions (Traps_here kind line) s never = trees (Traps_here kind line) tt s never

  led_paced : (n : ℕ) → TreesPaced n → RegionsPaced n → (outcome : RowOutcome TableTree)
      → NeverFaults (λ k. seen_of (lead_on outcome (place_at table)) (run_from (region_step table) k))
      → Answers (seen_of (lead_on outcome (place_at table)) (run_from (region_step table) n)) (seen_of (lead_on outcome (behind table forms)) (schedule n))
      (seen_of (lead_on outcome (place_at table)) (run_from (region_step table) n)).end
  led_paced n trees regions (Faults fault) never = (refl, refl)
  led_paced n trees regions (Commits out new leaf) never =
      Answers-after out (region_run table leaf new n) (schedule n (behind table forms leaf new)) (region_run table leaf new n).end
      (behind_paced n trees regions leaf new (λ k fault is. never k fault is))

  tree_paced : (n : ℕ) → TreesPaced n → RegionsPaced n → TreesPaced (suc n)
  tree_paced n trees regions (Does origin item rest) root s never = led_paced n trees regions (item_step table.arrays item rest s) (λ k fault is. never (suc k) fault is)
  tree_paced n trees regions (Asks origin on on_yes on_no) root s never =
      let side = side_of (operand_value s.names on) on_yes on_no in
      Answers-after [] (region_run table side s n) (schedule n (behind table forms side s)) (region_run table side s n).end
      (behind_paced n trees regions side s (λ k fault is. never (suc k) fault is))
  tree_paced n trees regions (Next region) root s never = absurd root
  tree_paced n trees regions Stops_here root s never = (refl, refl)
  tree_paced n trees regions (Traps_here kind line) root s never = (refl, refl)

  -- ---- automata

  leaf_paced : (n : ℕ) → StatesPaced n → RegionsPaced n → (region : ℕ) (states : List AutomatonState) (out : List ℤ) (new : State) (leaf : AutomatonLeaf)
      → NeverFaults (λ k. seen_of (leaf_step table states out new leaf) (rows states k))
      → Answers (seen_of (leaf_step table states out new leaf) (rows states n)) (seen_of (schedule_leaf_step table forms region states out new leaf) (schedule n))
      (seen_of (leaf_step table states out new leaf) (rows states n)).end
  leaf_paced n all regions region states out new (To number arguments) never =
      let t = passed_state new (state_parameters (slice_get states number)) arguments in
      Answers-after out (rows states n (At_row number t)) (schedule n (At_state region states number t)) (rows states n (At_row number t)).end
      (all region states number t (λ k fault is. never k fault is))
  leaf_paced n all regions region states out new (Out to homes) never =
      let u = home_state new homes in
      let same = λ (k : ℕ). left_is_region table states k (place_at table (Next to) u) in
      subst (λ (x : Seen). Answers (after_printing out x) (after_printing out (schedule n (begins_at table forms to u))) x.end) (sym (same n))
      (Answers-after out (region_run table (Next to) u n) (schedule n (begins_at table forms to u)) (region_run table (Next to) u n).end
      (regions to u (λ k fault is. never k fault (ap (λ (x : Seen). x.end) (same k) ∙ is))))
  leaf_paced n all regions region states out new Stop never = (refl, refl)
  leaf_paced n all regions region states out new (Trap kind line) never = (refl, refl)

  outcome_paced : (n : ℕ) → StatesPaced n → RegionsPaced n → (region : ℕ) (states : List AutomatonState) (outcome : RowOutcome AutomatonLeaf)
      → NeverFaults (λ k. seen_of (outcome_step table states outcome) (rows states k))
      → Answers (seen_of (outcome_step table states outcome) (rows states n)) (seen_of (schedule_outcome_step table forms region states outcome) (schedule n))
      (seen_of (outcome_step table states outcome) (rows states n)).end
  outcome_paced n all regions region states (Faults fault) never = (refl, refl)
  outcome_paced n all regions region states (Commits out new leaf) never = leaf_paced n all regions region states out new leaf never

  found_paced : (n : ℕ) → StatesPaced n → RegionsPaced n → (region : ℕ) (states : List AutomatonState) (state : Option AutomatonState) (s : State)
      → NeverFaults (λ k. seen_of (state_step table states state s) (rows states k))
      → Answers (seen_of (state_step table states state s) (rows states n)) (seen_of (schedule_state_step table forms region states state s) (schedule n))
      (seen_of (state_step table states state s) (rows states n)).end
  found_paced n all regions region states (Some state) s never = outcome_paced n all regions region states (row_step table.arrays state.row s) never
  found_paced n all regions region states None s never = (refl, refl)

  state_paced : (n : ℕ) → StatesPaced n → RegionsPaced n → StatesPaced (suc n)
  state_paced n all regions region states number s never =
      found_paced n all regions region states (slice_get states number) s (λ k fault is. never (suc k) fault is)

  -- ---- regions

  -- a region's run is that of its tree
  tree_same : (region : ℕ) (s : State) (n : ℕ) → region_run table (region_tree table region) s n ≡ region_run table (Next region) s n
  tree_same region s n = ap (λ (tree : TableTree). run_from (region_step table) n (record { tree = tree; state = s })) (keeps.begins region)

  plain_paced : (n : ℕ) → TreesPaced n → (region : ℕ) (s : State) → NeverFaults (region_run table (Next region) s)
      → Answers (region_run table (Next region) s n) (schedule n (At_tree (region_tree table region) s)) (region_run table (Next region) s n).end
  plain_paced n trees region s never =
      subst (λ (x : Seen). Answers x (schedule n (At_tree (region_tree table region) s)) x.end) (tree_same region s n)
      (trees (region_tree table region) (roots table keeps region) s
      (λ k fault is. never k fault (ap (λ (x : Seen). x.end) (sym (tree_same region s k)) ∙ is)))

  region_paced : (n : ℕ) → TreesPaced n → StatesPaced n → RegionsPaced n
  region_paced n trees all region s never = by_form (forms region) refl
    where
      by_form : (form : Option RegionForm) → forms region ≡ form
          → Answers (region_run table (Next region) s n) (schedule n (begins_in table region form s)) (region_run table (Next region) s n).end
      by_form None is = plain_paced n trees region s never
      by_form (Some Plain) is = plain_paced n trees region s never
      by_form (Some (ByAutomaton states registers)) is =
          let runs = alike region states registers is s never in
          answer_of_answer (region_run table (Next region) s n) (automaton_run table states s n) (schedule n (At_state region states 0 s)) (runs.pace n)
          (all region states 0 s (NeverFaults-follows (automaton_run table states s) (region_run table (Next region) s) runs.agree.forth never))

  all_paced : (n : ℕ) → TreesPaced n × StatesPaced n
  all_paced zero = (λ tree root s never. ([], refl), λ region states number s never. ([], refl))
  all_paced (suc n) =
      let before = all_paced n in
      let regions = region_paced n before.0 before.1 in
      (tree_paced n before.0 regions, state_paced n before.1 regions)

  pub regions_paced : (n : ℕ) → RegionsPaced n
  regions_paced n = let all = all_paced n in region_paced n all.0 all.1

-- ---- forms that were chosen

module _ (table : Table) (initial : List (List ℤ)) (limits : Limits) (extent : Extent) (region : ℕ) (states : List AutomatonState) (registers : Registers) where
  -- the automaton of a form that was chosen was found by a search
  abbrev pub IsSearched : Type 0
  IsSearched = (number : ℕ) × (most : ℕ) × HasRegisters (rules_for table limits number) region most states registers

  pub automaton_searched : {found : List ℕ} {choices : List Choice} {forms : ℕ → Option RegionForm} → Choosing table initial limits extent found choices forms
      → forms region ≡ Some (ByAutomaton states registers) → IsSearched
  automaton_searched Begins has = absurd (cc)
  automaton_searched (Takes {forms = had} {region = last} {chosen = chosen} {kind = kind} {causes = causes} choosing next gets) has =
      by (form_among table initial limits extent had last region chosen (ByAutomaton states registers) has) (automaton_searched choosing)
    where
      by : ((region ≡ last) × (chosen ≡ ByAutomaton states registers)) ⊎ (had region ≡ Some (ByAutomaton states registers))
          → (had region ≡ Some (ByAutomaton states registers) → IsSearched) → IsSearched
      by (inl (here, is)) before =
          form_found table limits extent region (bytes_with table initial had last) states registers kind causes
          (subst (λ (r : ℕ). Gets table limits extent r (bytes_with table initial had last) (ByAutomaton states registers) kind causes) (sym here)
          (subst (λ (form : RegionForm). Gets table limits extent last (bytes_with table initial had last) form kind causes) is gets))
      by (inr was) before = before was

pub schedules_keep_pace : SchedulesKeepPaceWithTheRegions
schedules_keep_pace table keeps initial limits extent choices forms chosen input never n =
    regions_paced table keeps forms
    (λ region states registers has. (automaton_searched table initial limits extent region states registers chosen.choosing has).2.found.runs.alike)
    n 0 (start_state initial input) never
