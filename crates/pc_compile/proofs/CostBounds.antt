-- No step of the schedule of forms that were chosen costs more cycles than twice the registers that are enough for them.
use Rattle.std.proofs.Common.{◌≡◌, ℕ, zero, suc, ◌+◌, ◌*◌, ◌<◌, ◌≤◌, List, length, Option, Some, None, refl, sym, ◌∙◌, ap, subst, arith}
use Rattle.std.proofs.Math.Nat.{mul-suc}
use Rattle.std.specs.Prelude.{ℤ, Bool, true, false, if◌then◌else◌, nat_le, slice_get}
use Rattle.std.specs.List.{AllByRecursion}
use Rattle.pc_word.specs.declared.item.Extent.{Extent}
use Rattle.pc_word.specs.declared.item.Item.{Item}
use Rattle.pc_word.specs.declared.item.Limits.{Limits}
use Rattle.pc_word.specs.declared.item.MachineFault.{MachineFault}
use Rattle.pc_word.specs.Commit.{fault_of}
use Rattle.pc_word.specs.Items.{operand_value}
use Rattle.pc_word.specs.Run.{Step, Goes, Stops}
use Rattle.pc_word.specs.State.{State, start_state}
use Rattle.pc_word.specs.Row.{Row, Then, Either, At_leaf, RowOutcome, Faults, Commits, leaves_of, path_of, leaf_of, item_step, commit_of, row_step}
use Rattle.pc_word.specs.Word.{holds}
use Rattle.pc_word.proofs.Lists.{all_front, all_back, all_at}
use Rattle.pc_word.proofs.Places.{map_length}
use Rattle.pc_table.specs.Table.{TableTree, Does, Asks, Next, Stops_here, Traps_here, Table}
use Rattle.pc_table.specs.RegionRun.{lead_on, side_of}
use Rattle.pc_table.specs.TableKeeps.{TableKeeps}
use Rattle.pc_window.specs.declared.home.Home.{Home}
use Rattle.pc_automaton.specs.declared.automaton.AutomatonLeaf.{AutomatonLeaf}
use Rattle.pc_automaton.specs.declared.automaton.AutomatonLeaf.TheVariants.{To, Out, Stop, Trap}
use Rattle.pc_automaton.specs.Automaton.{AutomatonState, LeafLeads, IsStateAmong}
use Rattle.pc_automaton.specs.There.{LeafIsThere, StateIsThere}
use Rattle.pc_assign.specs.Pressure.{most_scratch, LowBefore, IsScratch, Last_of_few, Last_of_most}
use Rattle.pc_assign.specs.Assigned.{Registers}
use Rattle.pc_emit.specs.Emitted.{RegionForm, Plain, ByAutomaton}
use Rattle.pc_emit.specs.Emitting.{AreEnough}
use Rattle.pc_compile.specs.declared.choice.Choice.{Choice}
use Rattle.pc_compile.specs.Choosing.{AreChosen}
use Rattle.pc_compile.specs.Laws.{StepsCostFewCycles, MostAreEnough, most_step_cost}
use Rattle.pc_machine.specs.Registers.{most_registers}
use Rattle.pc_compile.specs.ScheduleRun.{SchedulePlace, At_tree, At_state, begins_in, begins_at, behind, schedule_outcome_step, schedule_state_step, schedule_step}
use Rattle.pc_compile.specs.ScheduleRun.{passing_cost, leaf_cost, outcome_cost, state_cost, step_cost, cost_behind, cost_from, start_cost}
use Rattle.pc_compile.proofs.RegionPaces.{automaton_searched}
use Rattle.pc_compile.proofs.StateBytes.{live_few, takes_few, all_both_hold}

-- ---- a row

passing_most : (many ops count : ℕ) → count < many → passing_cost ops count ≤ most_step_cost many
passing_most many ops zero few = omega (arith, few)
passing_most many ops (suc more) few = by (nat_le (suc more) ops)
  where
    by : (b : Bool) → (if b then 2 else 1 + 2 * suc more) ≤ most_step_cost many
    by true = omega (arith, few)
    by false = omega (arith, few)

-- states have no higher pressure than the register that is left for moves, above which no variable is
low_scratch : (states : List AutomatonState) (scratch : ℕ) → IsScratch states scratch → LowBefore most_scratch states (length states)
    → LowBefore scratch states (length states)
low_scratch states scratch (Last_of_few is low) all = subst (λ (n : ℕ). LowBefore n states (length states)) (sym is) low
low_scratch states scratch (Last_of_most is high) all = subst (λ (n : ℕ). LowBefore n states (length states)) (sym is) all

scratch_high : (states : List AutomatonState) (scratch : ℕ) → IsScratch states scratch → 96 ≤ scratch
scratch_high states scratch (Last_of_few is low) = omega (arith, is)
scratch_high states scratch (Last_of_most is high) = omega (arith, is)

leaf_cheap : (many scratch : ℕ) → scratch < many → 96 ≤ scratch → (table : Table) → TableKeeps table → (states : List AutomatonState)
    → LowBefore scratch states (length states) → (ops : ℕ) (leaf : AutomatonLeaf)
    → LeafLeads states leaf → LeafIsThere table leaf → leaf_cost ops leaf ≤ most_step_cost many
leaf_cheap many scratch left variables table keeps states low ops (To number arguments) leads there =
    let few = takes_few scratch states low number (length arguments) leads in
    passing_most many ops (length arguments) (omega (arith, few, left))
leaf_cheap many scratch left variables table keeps states low ops (Out region homes) leads there =
    let as_many = sym (map_length (λ (home : Home). home.variable) homes) ∙ ap length there.live in
    let few = live_few table keeps region in
    passing_most many ops (length homes) (omega (arith, as_many, few, variables, left))
leaf_cheap many scratch left variables table keeps states low ops Stop leads there = omega (arith, left)
leaf_cheap many scratch left variables table keeps states low ops (Trap kind line) leads there = omega (arith, left)

-- what holds of each leaf holds of the one that is taken
taken_leaf : {L : Type 0} (P : L → Type 0) (names : ℕ → ℤ) (row : Row L) → AllByRecursion P (leaves_of row) → P (leaf_of names row)
taken_leaf P names (Then item rest) all = taken_leaf P names rest all
taken_leaf P names (Either on on_yes on_no) all =
    by (holds (operand_value names on)) (taken_leaf P names on_yes (all_front P (leaves_of on_yes) (leaves_of on_no) all))
    (taken_leaf P names on_no (all_back P (leaves_of on_yes) (leaves_of on_no) all))
  where
    by : (b : Bool) → P (leaf_of names on_yes) → P (leaf_of names on_no) → P (if b then leaf_of names on_yes else leaf_of names on_no)
    by true h k = h
    by false h k = k
taken_leaf P names (At_leaf leaf) all = all.0

outcome_cheap : (many : ℕ) → 0 < many → (ops : ℕ) (lengths : List ℕ) (s : State) (items : List Item) (leaf : AutomatonLeaf) (fault : Option MachineFault) → leaf_cost ops leaf ≤ most_step_cost many
    → outcome_cost ops (commit_of lengths s items leaf fault) ≤ most_step_cost many
outcome_cheap many some ops lengths s items leaf (Some fault) cheap = omega (arith, some)
outcome_cheap many some ops lengths s items leaf None cheap = cheap

-- ---- the schedule

module _ (table : Table) (keeps : TableKeeps table) (initial : List (List ℤ)) (limits : Limits) (extent : Extent) (choices : List Choice) (forms : ℕ → Option RegionForm)
    (chosen : AreChosen table initial limits extent choices forms) (many : ℕ) (enough : AreEnough many forms) (ops : ℕ) where
  some_registers : 0 < many
  some_registers = let room = enough.variables in omega (arith, room)

  -- a place in a plain region, or in the automaton that a region has
  data IsOfForms : SchedulePlace → Type 0 where
    of_tree : {tree : TableTree} {s : State} → IsOfForms (At_tree tree s)
    of_state : {region number : ℕ} {states : List AutomatonState} {registers : Registers} {s : State} → forms region ≡ Some (ByAutomaton states registers)
        → IsOfForms (At_state region states number s)

  begins_of : (region : ℕ) (s : State) → IsOfForms (begins_at table forms region s)
  begins_of region s = by (forms region) refl
    where
      by : (form : Option RegionForm) → forms region ≡ form → IsOfForms (begins_in table region form s)
      by None is = of_tree
      by (Some Plain) is = of_tree
      by (Some (ByAutomaton states registers)) is = of_state is

  -- so is the place to which a step leads
  abbrev LeadsToForms : Step SchedulePlace → Type 0
  LeadsToForms (Goes out next) = IsOfForms next
  LeadsToForms (Stops out end) = Unit {0}

  behind_of : (tree : TableTree) (s : State) → IsOfForms (behind table forms tree s)
  behind_of (Does origin item rest) s = of_tree
  behind_of (Asks origin on on_yes on_no) s = of_tree
  behind_of (Next region) s = begins_of region s
  behind_of Stops_here s = of_tree
  behind_of (Traps_here kind line) s = of_tree

  led_of : (outcome : RowOutcome TableTree) → LeadsToForms (lead_on outcome (behind table forms))
  led_of (Faults fault) = tt
  led_of (Commits out new leaf) = behind_of leaf new

  leaf_of_forms : (region : ℕ) (states : List AutomatonState) (registers : Registers) → forms region ≡ Some (ByAutomaton states registers)
      → (outcome : RowOutcome AutomatonLeaf) → LeadsToForms (schedule_outcome_step table forms region states outcome)
  leaf_of_forms region states registers has (Faults fault) = tt
  leaf_of_forms region states registers has (Commits out new (To number arguments)) = of_state has
  leaf_of_forms region states registers has (Commits out new (Out to homes)) = begins_of to _
  leaf_of_forms region states registers has (Commits out new Stop) = tt
  leaf_of_forms region states registers has (Commits out new (Trap kind line)) = tt

  step_of : (place : SchedulePlace) → IsOfForms place → LeadsToForms (schedule_step table forms place)
  step_of (At_tree (Does origin item rest) s) of_tree = led_of (item_step table.arrays item rest s)
  step_of (At_tree (Asks origin on on_yes on_no) s) of_tree = behind_of (side_of (operand_value s.names on) on_yes on_no) s
  step_of (At_tree (Next region) s) of_tree = begins_of region s
  step_of (At_tree Stops_here s) of_tree = tt
  step_of (At_tree (Traps_here kind line) s) of_tree = tt
  step_of (At_state region states number s) (of_state {registers} has) = by (slice_get states number)
    where
      by : (state : Option AutomatonState) → LeadsToForms (schedule_state_step table forms region states state s)
      by (Some state) = leaf_of_forms region states registers has (row_step table.arrays state.row s)
      by None = tt

  -- the row of a state
  state_cheap : (region : ℕ) (states : List AutomatonState) (registers : Registers) → forms region ≡ Some (ByAutomaton states registers)
      → (number : ℕ) (state : Option AutomatonState) (s : State) → slice_get states number ≡ state → state_cost table.arrays ops state s ≤ most_step_cost many
  state_cheap region states registers has number None s at = let some = some_registers in omega (arith, some)
  state_cheap region states registers has number (Some state) s at =
      let it = automaton_searched table initial limits extent region states registers chosen.choosing has in
      let found = it.2.found in
      let among = all_at (IsStateAmong states) states number state found.automaton.each at in
      let there = all_at (StateIsThere table) states number state found.there at in
      let leaves = all_both_hold (LeafLeads states) (LeafIsThere table) (λ leaf. leaf_cost ops leaf ≤ most_step_cost many) (leaves_of state.row)
      (leaf_cheap many registers.scratch (enough.left region states registers has) (scratch_high states registers.scratch it.2.assigned.left) table keeps states
      (low_scratch states registers.scratch it.2.assigned.left it.2.low) ops) among.lead there.leaves in
      outcome_cheap many some_registers ops table.arrays s (path_of s.names state.row) (leaf_of s.names state.row) (fault_of table.arrays s (path_of s.names state.row))
      (taken_leaf (λ leaf. leaf_cost ops leaf ≤ most_step_cost many) s.names state.row leaves)

  step_cheap : (place : SchedulePlace) → IsOfForms place → step_cost table.arrays ops place ≤ most_step_cost many
  step_cheap (At_tree tree s) of_tree = let some = some_registers in omega (arith, some)
  step_cheap (At_state region states number s) (of_state {registers} has) = state_cheap region states registers has number (slice_get states number) s refl

  cost_cheap : (n : ℕ) (place : SchedulePlace) → IsOfForms place
      → cost_from (schedule_step table forms) (step_cost table.arrays ops) n place ≤ most_step_cost many * n
  cost_cheap zero place is = zero_cost (most_step_cost many)
    where
      zero_cost : (most : ℕ) → 0 ≤ most * zero
      zero_cost most = omega arith
  cost_cheap (suc n) place is =
      let here = step_cheap place is in
      let rest = by (schedule_step table forms place) (step_of place is) (λ next of. cost_cheap n next of) in
      let more = mul-suc (most_step_cost many) n in
      add_up _ _ _ _ _ here rest more
    where
      add_up : (a b c d e : ℕ) → a ≤ c → b ≤ d → e ≡ d + c → a + b ≤ e
      add_up a b c d e h k is = omega arith

      nothing : (most : ℕ) → 0 ≤ most
      nothing most = omega arith

      by : (step : Step SchedulePlace) → LeadsToForms step
          → ((next : SchedulePlace) → IsOfForms next → cost_from (schedule_step table forms) (step_cost table.arrays ops) n next ≤ most_step_cost many * n)
          → cost_behind step (cost_from (schedule_step table forms) (step_cost table.arrays ops) n) ≤ most_step_cost many * n
      by (Goes out next) of more = more next of
      by (Stops out end) of more = nothing (most_step_cost many * n)

start_cheap : (form : Option RegionForm) → start_cost form ≤ 1
start_cheap None = omega arith
start_cheap (Some Plain) = omega arith
start_cheap (Some (ByAutomaton states registers)) = omega arith

pub steps_cost_few : StepsCostFewCycles
steps_cost_few table keeps initial limits extent choices forms chosen many enough ops input n =
    let start = start_cheap (forms 0) in
    let steps = cost_cheap table keeps initial limits extent choices forms chosen many enough ops n (begins_at table forms 0 (start_state initial input))
    (begins_of table keeps initial limits extent choices forms chosen many enough ops 0 (start_state initial input)) in
    add_up _ _ _ _ start steps
  where
    add_up : (a b c d : ℕ) → a ≤ c → b ≤ d → a + b ≤ c + d
    add_up a b c d h k = omega arith

-- ---- the most registers

scratch_low : (states : List AutomatonState) (scratch : ℕ) → IsScratch states scratch → scratch < most_registers
scratch_low states scratch (Last_of_few is low) = omega (arith, is)
scratch_low states scratch (Last_of_most is high) = omega (arith, is)

pub most_are_enough : MostAreEnough
most_are_enough table keeps initial limits extent choices forms chosen = record {
  variables = omega arith;
  left = λ region states registers has.
      let it = automaton_searched table initial limits extent region states registers chosen.choosing has in
      scratch_low states registers.scratch it.2.assigned.left;
}
