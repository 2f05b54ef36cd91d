-- The graph that is rewritten.
use Rattle.std.proofs.Common.{◌≡◌, ◌≢◌, ◌⊎◌, inl, inr, ℕ, ◌<◌, Bool, true, false, List, [], length, Option, Some, None, refl, sym, ◌∙◌, ap, subst, arith}
use Rattle.std.specs.Prelude.{ℤ, if◌then◌else◌, slice_get, slice_index}
use Rattle.std.proofs.lemmas.Bool.{cases_eq}
use Rattle.pc_word.specs.declared.item.Item.{Item}
use Rattle.pc_word.specs.declared.item.Item.TheVariants.{Bin}
use Rattle.pc_word.specs.declared.item.OpCode.{OpCode}
use Rattle.pc_word.specs.declared.item.Operand.{Operand}
use Rattle.pc_word.specs.Word.{holds}
use Rattle.pc_word.specs.State.{State}
use Rattle.pc_word.specs.Run.{Step, Goes}
use Rattle.pc_word.specs.Items.{operand_value}
use Rattle.pc_word.proofs.Truth.{or_true, or_false}
use Rattle.pc_flow.specs.declared.node.FlowNode.{FlowNode}
use Rattle.pc_flow.specs.declared.node.FlowNode.TheVariants.{Op, Test, Stop, Trap}
use Rattle.pc_flow.specs.FlowGraph.{FlowGraph, IsTarget, Descends, NodeFits, IsFlow, tested_loop}
use Rattle.pc_flow.specs.FlowRun.{FlowState, step_after_item, run_node, flow_step}
use Rattle.pc_flow.specs.Reachable.{IsReachableNode, Behind}
use Rattle.pc_live.specs.Live.{node_reads}
use Rattle.pc_pass.specs.Pass.{Keeps}
use Rattle.pc_pass.specs.models.Change.{Change, LeadsPast, Becomes, Does, Tests, Stops_too, Traps_too, IsSkipped, IsChange}
use Rattle.pc_pass.proofs.Changes.{change_agrees, change_paces, node_there, reachable_there}
use Rattle.pc_scalar.specs.declared.plan.Plan.{Plan}
use Rattle.pc_scalar.specs.LoopTests.{KeepsLoopTests}
use Rattle.pc_scalar.specs.Tally.{AreMany, without_edges, IsWorkedOn}
use Rattle.pc_scalar.specs.models.Plan.{Fits, planned}
use Rattle.pc_scalar.specs.models.Ends.{Jump, FallsAlong, led}
use Rattle.pc_scalar.proofs.Skipping.{sides_there, IsSkipping, new_there, new_made_of, new_as_many, skipping_fits, end_leads, reachable_stays, skipping_keeps_tests}
use Rattle.pc_scalar.proofs.Skipped.{Tells, skipping_counts}
use Rattle.pc_ranges.specs.declared.bounds.Bounds.{Bounds}
use Rattle.pc_ranges.specs.Interval.{is_single, is_zero, lacks_zero, operand_interval}
use Rattle.pc_ranges.specs.Bounds.{IsWithin, bounds_at}
use Rattle.pc_ranges.specs.Over.{over}
use Rattle.pc_ranges.specs.Ranged.{IsRanged}
use Rattle.pc_ranges.specs.models.Rewriting.{is_settled, settled, settled_item, settled_node, taken, is_decided, node_changes, AreTaken, IsRanging}
use Rattle.pc_ranges.proofs.Intervals.{lacking_holds, zero_holds_not}
use Rattle.pc_ranges.proofs.Kept.{Lie, operand_lies}
use Rattle.pc_ranges.proofs.Rewritten.{settled_value, settled_interval, settled_other, settled_same, settled_dest, settled_does, settled_many}
use Rattle.pc_ranges.proofs.Rewritten.{item_other, item_same, settled_keeps, node_names}

-- ---- sides that are taken

-- the side that is taken of a test that is skipped, in each state in which all variables lie in their intervals
pub record IsTakenSide (flow : FlowGraph) (map : List Bounds) (at next : ℕ) : Type 0 where
  on : Operand
  on_yes : ℕ
  on_no : ℕ
  side : Bool
  there : slice_get flow.nodes at ≡ Some (Test on on_yes on_no None)
  decided : (s : State) → Lie (bounds_at map at).intervals s → holds (operand_value s.names on) ≡ side
  leads : next ≡ (if side then on_yes else on_no)

module _ (flow : FlowGraph) (map : List Bounds) (at : ℕ) where
  side_by : (b c : Bool) (on : Operand) (on_yes on_no : ℕ) → slice_get flow.nodes at ≡ Some (Test on on_yes on_no None)
      → lacks_zero (operand_interval (bounds_at map at).intervals on) ≡ b → is_zero (operand_interval (bounds_at map at).intervals on) ≡ c
      → (if b then on_yes else (if c then on_no else at)) ≢ at → IsTakenSide flow map at (if b then on_yes else (if c then on_no else at))
  side_by true c on on_yes on_no there lacks zero other = record {
    on = on;
    on_yes = on_yes;
    on_no = on_no;
    side = true;
    there = there;
    decided = λ s lie. lacking_holds (operand_interval (bounds_at map at).intervals on) (operand_value s.names on) lacks (operand_lies (bounds_at map at).intervals s on lie);
    leads = refl;
  }
  side_by false true on on_yes on_no there lacks zero other = record {
    on = on;
    on_yes = on_yes;
    on_no = on_no;
    side = false;
    there = there;
    decided = λ s lie. zero_holds_not (operand_interval (bounds_at map at).intervals on) (operand_value s.names on) zero (operand_lies (bounds_at map at).intervals s on lie);
    leads = refl;
  }
  side_by false false on on_yes on_no there lacks zero other = absurd (other refl)

  -- a node whose place another takes is such a test
  taken_is : (node : FlowNode) → slice_get flow.nodes at ≡ Some node → taken map at node ≢ at → IsTakenSide flow map at (taken map at node)
  taken_is (Op item to) there other = absurd (other refl)
  taken_is (Test on on_yes on_no None) there other =
      side_by (lacks_zero (operand_interval (bounds_at map at).intervals on)) (is_zero (operand_interval (bounds_at map at).intervals on)) on on_yes on_no there refl refl other
  taken_is (Test on on_yes on_no (Some turn)) there other = absurd (other refl)
  taken_is Stop there other = absurd (other refl)
  taken_is (Trap kind line) there other = absurd (other refl)

-- no other takes the place of a loop's test
taken_of_loop : (map : List Bounds) (at turn : ℕ) (node : FlowNode) → tested_loop node ≡ Some turn → taken map at node ≡ at
taken_of_loop map at turn (Op item to) e = refl
taken_of_loop map at turn (Test on on_yes on_no None) e = absurd (cc)
taken_of_loop map at turn (Test on on_yes on_no (Some loop)) e = refl
taken_of_loop map at turn Stop e = refl
taken_of_loop map at turn (Trap kind line) e = refl

-- what holds of both sides holds of the one that is taken
one_of : (P : ℕ → Type 0) (b : Bool) (on_yes on_no : ℕ) → P on_yes → P on_no → P (if b then on_yes else on_no)
one_of P true on_yes on_no h k = h
one_of P false on_yes on_no h k = k

edge_taken : (b : Bool) (on_yes on_no next : ℕ) → next ≡ (if b then on_yes else on_no) → (on_yes ≡ next) ⊎ (on_no ≡ next)
edge_taken true on_yes on_no next e = inl (sym e)
edge_taken false on_yes on_no next e = inr (sym e)

side_descends : (flow : FlowGraph) (map : List Bounds) (at next : ℕ) → IsFlow flow → IsTakenSide flow map at next → Descends flow at next
side_descends flow map at next is side =
    let fits = (is.nodes_fit at (Test side.on side.on_yes side.on_no None) side.there).1 in
    subst (Descends flow at) (sym side.leads) (one_of (Descends flow at) side.side side.on_yes side.on_no fits.0 fits.1)

module _ (flow : FlowGraph) (map : List Bounds) (table : List ℕ) (are : AreTaken flow map table) where
  jump_side : (at : ℕ) → at < length flow.nodes → slice_index table at ≢ at → IsTakenSide flow map at (slice_index table at)
  jump_side at there other =
      let found = node_there flow.nodes at there in
      let is = are.each at found.0 found.1 in
      subst (IsTakenSide flow map at) (sym is) (taken_is flow map at found.0 found.1 (λ same. other (is ∙ same)))

  -- the table falls along
  pub taken_falls : FallsAlong flow table
  taken_falls = record {
    as_many = are.as_many;
    there = λ at low. side_there at (omega (arith, are.as_many));
    falls = λ at low other. (side_descends flow map at (slice_index table at) are.is_flow (jump_side at (omega (arith, are.as_many)) other)).lower;
  }
    where
      side_there : (at : ℕ) → at < length flow.nodes → slice_index table at < length table
      side_there at low = elim (cases_eq (slice_index table at) at) [
        | inl same ↦ omega (arith, are.as_many, same)
        | inr other ↦ let h = side_descends flow map at (slice_index table at) are.is_flow (jump_side at low other) in omega (arith, are.as_many, h.target)
      ]

-- ---- the graph after

is_skipping : (flow : FlowGraph) (map : List Bounds) (plan : Plan) (is : IsRanging flow map plan) → IsSkipping flow plan is.table is.ends (settled_node map)
is_skipping flow map plan is = record {
  is_flow = is.taken_sides.is_flow;
  falls = taken_falls flow map is.table is.taken_sides;
  are_ends = is.are_ends;
  nodes = record { as_many = is.nodes.as_many; each = is.nodes.each };
  entry = is.entry;
  keeps = settled_keeps flow map;
}

module _ (flow : FlowGraph) (map : List Bounds) (plan : Plan) (is : IsRanging flow map plan) where
  abbrev new : FlowGraph
  new = planned plan flow

  -- the plan fits
  pub ranging_fits : Fits flow plan
  ranging_fits = skipping_fits flow plan is.table is.ends (settled_node map) (is_skipping flow map plan is)

  -- ---- it shows what the graph shows

  abbrev change : Change
  change = record { old = flow; new = new; Skips = Jump is.table; Knows = λ at s. IsWithin flow (bounds_at map at) s; Matters = λ at x. Unit {0} }

  leads : (to : ℕ) → IsTarget flow to → LeadsPast (Jump is.table) to (slice_index is.ends to)
  leads = end_leads flow plan is.table is.ends (settled_node map) (is_skipping flow map plan is)

  -- a step to a node leads to what is known there
  step_known : (at to : ℕ) (s after : State) (printed : List ℤ) → IsWithin flow (bounds_at map at) s
      → flow_step flow (record { node = at; state = s }) ≡ Goes printed (record { node = to; state = after }) → IsWithin flow (bounds_at map to) after
  step_known at to s after printed known e = is.kept.goes_on (record { node = at; state = s }) (record { node = to; state = after }) printed known e

  abbrev goes_to : ℕ → State → Step FlowState
  goes_to n s = Goes [] (record { node = n; state = s })

  -- the step of a test
  test_step : (at : ℕ) (on : Operand) (on_yes on_no : ℕ) (turn : Option ℕ) (side : Bool) (s : State) → slice_get flow.nodes at ≡ Some (Test on on_yes on_no turn)
      → holds (operand_value s.names on) ≡ side → flow_step flow (record { node = at; state = s }) ≡ goes_to (if side then on_yes else on_no) s
  test_step at on on_yes on_no turn side s there e =
      ap (run_node flow.arrays s) there ∙ ap (λ (b : Bool). goes_to (if b then on_yes else on_no) s) e

  node_becomes : (at : ℕ) (node : FlowNode) → slice_get flow.nodes at ≡ Some node → NodeFits flow at node → Becomes change at node (led is.ends (settled_node map at node))
  node_becomes at (Op item to) there fits = Does (record {
    leads = leads to fits.1.target;
    same_dest = settled_dest (bounds_at map at).intervals item;
    does_same = λ s known. settled_does (bounds_at map at).intervals flow.arrays item to s known.lie;
    reads = λ x h. tt;
    passes = λ x h k. tt;
    knows = λ s after printed known step. step_known at to s after printed known (ap (run_node flow.arrays s) there ∙ ap step_after_item step);
  })
  node_becomes at (Test on on_yes on_no turn) there fits =
      let sides = sides_there flow at on_yes on_no turn fits.1 in
      Tests (record { same_value = λ s known. settled_value (bounds_at map at).intervals on s known.lie; reads = λ x h. tt })
      (record { leads = leads on_yes sides.0; passes = λ x h. tt; knows = λ s known side. step_known at on_yes s s [] known (test_step at on on_yes on_no turn true s there side) })
      (record { leads = leads on_no sides.1; passes = λ x h. tt; knows = λ s known side. step_known at on_no s s [] known (test_step at on on_yes on_no turn false s there side) })
  node_becomes at Stop there fits = Stops_too
  node_becomes at (Trap kind line) there fits = Traps_too

  -- a test that is decided does nothing but go to the side that is taken
  skips : (at next : ℕ) → IsReachableNode flow at → Jump is.table at next → IsSkipped change at next
  skips at next reached jump =
      let there = reachable_there flow at is.taken_sides.is_flow reached in
      let jumped = jump_side flow map is.table is.taken_sides at there (λ same. jump.other (sym jump.leads ∙ same)) in
      let side : IsTakenSide flow map at next = subst (IsTakenSide flow map at) jump.leads jumped in
      let steps = λ (s : State) (known : IsWithin flow (bounds_at map at) s).
      test_step at side.on side.on_yes side.on_no None side.side s side.there (side.decided s known.lie) ∙ ap (λ (n : ℕ). goes_to n s) (sym side.leads) in
      record {
        lower = (side_descends flow map at next is.taken_sides.is_flow side).lower;
        reached = λ h. Behind h side.there (edge_taken side.side side.on_yes side.on_no next side.leads);
        passes = λ x h. tt;
        does_nothing = λ s known. record {
          after = s;
          steps = steps s known;
          known = step_known at next s s [] known (steps s known);
          same_cells = refl;
          same_input = refl;
          same_names = λ x h. refl;
        };
      }

  is_change : IsChange change
  is_change = record {
    is_flow = is.taken_sides.is_flow;
    same_arrays = refl;
    same_initial = refl;
    begins = rw is.entry (leads flow.entry is.taken_sides.is_flow.begins);
    known_first = λ input words. is.kept.begins input;
    skips = skips;
    becomes = λ at node reached there stays. record {
      other = led is.ends (settled_node map at node);
      there = new_there flow plan is.table is.ends (settled_node map) (is_skipping flow map plan is) at node there;
      becomes = node_becomes at node there (is.taken_sides.is_flow.nodes_fit at node there);
    };
  }

  pub ranging_keeps : Keeps flow new
  ranging_keeps = record {
    agrees = change_agrees change is_change;
    pace = change_paces change is_change;
    as_many = new_as_many flow plan is.table is.ends (settled_node map) (is_skipping flow map plan is);
    same_loops = refl;
    same_inside = refl;
    same_arrays = refl;
    same_initial = refl;
  }

  -- ---- and is rewritten by the map

  -- a test that keeps its place is not decided
  undecided_by : (b c : Bool) (at : ℕ) (on : Operand) (on_yes on_no : ℕ) → slice_get flow.nodes at ≡ Some (Test on on_yes on_no None)
      → lacks_zero (operand_interval (bounds_at map at).intervals on) ≡ b → is_zero (operand_interval (bounds_at map at).intervals on) ≡ c
      → (if b then on_yes else (if c then on_no else at)) ≡ at → (c ≡ false) × (b ≡ false)
  undecided_by true c at on on_yes on_no there lacks zero stays =
      let side : IsTakenSide flow map at on_yes = record {
        on = on;
        on_yes = on_yes;
        on_no = on_no;
        side = true;
        there = there;
        decided = λ s lie. lacking_holds (operand_interval (bounds_at map at).intervals on) (operand_value s.names on) lacks (operand_lies (bounds_at map at).intervals s on lie);
        leads = refl;
      } in
      let lower = (side_descends flow map at on_yes is.taken_sides.is_flow side).lower in
      let ranks = ap (slice_index flow.ranks) stays in
      absurd (omega (arith, lower, ranks))
  undecided_by false true at on on_yes on_no there lacks zero stays =
      let side : IsTakenSide flow map at on_no = record {
        on = on;
        on_yes = on_yes;
        on_no = on_no;
        side = false;
        there = there;
        decided = λ s lie. zero_holds_not (operand_interval (bounds_at map at).intervals on) (operand_value s.names on) zero (operand_lies (bounds_at map at).intervals s on lie);
        leads = refl;
      } in
      let lower = (side_descends flow map at on_no is.taken_sides.is_flow side).lower in
      let ranks = ap (slice_index flow.ranks) stays in
      absurd (omega (arith, lower, ranks))
  undecided_by false false at on on_yes on_no there lacks zero stays = (refl, refl)

  stays_undecided : (at : ℕ) (on : Operand) (on_yes on_no : ℕ) → slice_get flow.nodes at ≡ Some (Test on on_yes on_no None) → slice_index is.table at ≡ at
      → (is_zero (operand_interval (bounds_at map at).intervals on) ≡ false) × (lacks_zero (operand_interval (bounds_at map at).intervals on) ≡ false)
  stays_undecided at on on_yes on_no there stays =
      undecided_by (lacks_zero (operand_interval (bounds_at map at).intervals on)) (is_zero (operand_interval (bounds_at map at).intervals on)) at on on_yes on_no there refl refl
      (sym (is.taken_sides.each at (Test on on_yes on_no None) there) ∙ stays)

  test_stays : (at : ℕ) (on : Operand) (to_yes to_no : ℕ) (node : FlowNode) → slice_get flow.nodes at ≡ Some node → slice_index is.table at ≡ at
      → led is.ends (settled_node map at node) ≡ Test on to_yes to_no None
      → (is_zero (operand_interval (bounds_at map at).intervals on) ≡ false) × (lacks_zero (operand_interval (bounds_at map at).intervals on) ≡ false)
  test_stays at on to_yes to_no (Op item to) there stays e = absurd (cc)
  test_stays at on to_yes to_no (Test before on_yes on_no None) there stays e =
      let same : settled (bounds_at map at).intervals before ≡ on = (cc) in
      rw (sym same, settled_interval (bounds_at map at).intervals before) (stays_undecided at before on_yes on_no there stays)
  test_stays at on to_yes to_no (Test before on_yes on_no (Some turn)) there stays e = absurd (cc)
  test_stays at on to_yes to_no Stop there stays e = absurd (cc)
  test_stays at on to_yes to_no (Trap kind line) there stays e = absurd (cc)

  bin_stays : (at : ℕ) (node : FlowNode) (op : OpCode) (dest to : ℕ) (left right : Operand) → led is.ends (settled_node map at node) ≡ Op (Bin op dest left right) to
      → is_single (over op (operand_interval (bounds_at map at).intervals left) (operand_interval (bounds_at map at).intervals right)) ≡ false
  bin_stays at (Op item next) op dest to left right e =
      let same : settled_item (bounds_at map at).intervals item ≡ Bin op dest left right = (cc) in
      settled_many (bounds_at map at).intervals item op dest left right same
  bin_stays at (Test on on_yes on_no turn) op dest to left right e = absurd (cc)
  bin_stays at Stop op dest to left right e = absurd (cc)
  bin_stays at (Trap kind line) op dest to left right e = absurd (cc)

  pub ranging_ranges : IsRanged flow new
  ranging_ranges = record {
    map = map;
    kept = is.kept;
    undecided = λ at on_yes on_no on reached there.
        let before = new_made_of flow plan is.table is.ends (settled_node map) (is_skipping flow map plan is) at (Test on on_yes on_no None) there in
        test_stays at on on_yes on_no before.0 before.1 (reachable_stays flow plan is.table is.ends (settled_node map) (is_skipping flow map plan is) at reached) before.2;
    computes_many = λ at to dest op left right reached there.
        let before = new_made_of flow plan is.table is.ends (settled_node map) (is_skipping flow map plan is) at (Op (Bin op dest left right) to) there in
        bin_stays at before.0 op dest to left right before.2;
    names_many = λ at x node reached there reads.
        let before = new_made_of flow plan is.table is.ends (settled_node map) (is_skipping flow map plan is) at node there in
        node_names map is.ends at x before.0 (ap (λ (n : FlowNode). node_reads n x) before.2 ∙ reads);
  }

  -- ---- it keeps the tests of loops

  pub ranging_keeps_tests : KeepsLoopTests flow new
  ranging_keeps_tests = skipping_keeps_tests flow plan is.table is.ends (settled_node map) (is_skipping flow map plan is)
      (λ to turn test. is.taken_sides.each to test.node test.there ∙ taken_of_loop map to turn test.node test.tests)

  -- ---- what is counted

  -- a test that is decided is skipped
  decided_works : (at : ℕ) (on : Operand) (on_yes on_no : ℕ) (turn : Option ℕ) → slice_get flow.nodes at ≡ Some (Test on on_yes on_no turn)
      → is_decided turn (operand_interval (bounds_at map at).intervals on) ≡ true → slice_index is.table at ≢ at
  decided_works at on on_yes on_no None there e stays =
      let not = stays_undecided at on on_yes on_no there stays in
      elim (or_true (lacks_zero (operand_interval (bounds_at map at).intervals on)) (is_zero (operand_interval (bounds_at map at).intervals on)) e) [
        | inl lacks ↦ let both = sym lacks ∙ not.1 in absurd (cc)
        | inr zero ↦ let both = sym zero ∙ not.0 in absurd (cc)
      ]
  decided_works at on on_yes on_no (Some turn) there e stays = absurd (cc)

  ranging_works : (at : ℕ) (node : FlowNode) → slice_get flow.nodes at ≡ Some node → node_changes map at node ≡ true
      → (without_edges (settled_node map at node) ≢ without_edges node) ⊎ (slice_index is.table at ≢ at)
  ranging_works at (Op item to) there e =
      inl (λ same. let items : settled_item (bounds_at map at).intervals item ≡ item = (cc) in item_other (bounds_at map at).intervals item e items)
  ranging_works at (Test on on_yes on_no turn) there e =
      elim (or_true (is_settled (bounds_at map at).intervals on) (is_decided turn (operand_interval (bounds_at map at).intervals on)) e) [
        | inl one ↦ inl (λ same. let operands : settled (bounds_at map at).intervals on ≡ on = (cc) in settled_other (bounds_at map at).intervals on one operands)
        | inr one ↦ inr (decided_works at on on_yes on_no turn there one)
      ]
  ranging_works at Stop there e = absurd (cc)
  ranging_works at (Trap kind line) there e = absurd (cc)

  side_stays : (b c : Bool) (at on_yes on_no : ℕ) → b ≡ false → c ≡ false → (if b then on_yes else (if c then on_no else at)) ≡ at
  side_stays true c at on_yes on_no e f = absurd (cc)
  side_stays false true at on_yes on_no e f = absurd (cc)
  side_stays false false at on_yes on_no e f = refl

  test_left : (at : ℕ) (on : Operand) (on_yes on_no : ℕ) (turn : Option ℕ) → is_decided turn (operand_interval (bounds_at map at).intervals on) ≡ false
      → taken map at (Test on on_yes on_no turn) ≡ at
  test_left at on on_yes on_no None e =
      let both = or_false (lacks_zero (operand_interval (bounds_at map at).intervals on)) (is_zero (operand_interval (bounds_at map at).intervals on)) e in
      side_stays (lacks_zero (operand_interval (bounds_at map at).intervals on)) (is_zero (operand_interval (bounds_at map at).intervals on)) at on_yes on_no both.0 both.1
  test_left at on on_yes on_no (Some turn) e = refl

  unchanged : (node : FlowNode) (at : ℕ) → node_changes map at node ≡ false → (without_edges (settled_node map at node) ≡ without_edges node) × (taken map at node ≡ at)
  unchanged (Op item to) at e = (ap (λ (i : Item). Op i 0) (item_same (bounds_at map at).intervals item e), refl)
  unchanged (Test on on_yes on_no turn) at e =
      let both = or_false (is_settled (bounds_at map at).intervals on) (is_decided turn (operand_interval (bounds_at map at).intervals on)) e in
      (ap (λ (o : Operand). Test o 0 0 turn) (settled_same (bounds_at map at).intervals on both.0), test_left at on on_yes on_no turn both.1)
  unchanged Stop at e = (refl, refl)
  unchanged (Trap kind line) at e = (refl, refl)

  ranging_tells : Tells flow is.table (settled_node map) (λ at node. node_changes map at node)
  ranging_tells = record {
    worked = ranging_works;
    left = λ at node there e. let it = unchanged node at e in (it.0, is.taken_sides.each at node there ∙ it.1);
  }

  pub ranging_counts : AreMany (IsWorkedOn flow new) (length flow.nodes) plan.changed
  ranging_counts = skipping_counts flow plan is.table is.ends (settled_node map) (is_skipping flow map plan is) (λ at node. node_changes map at node) ranging_tells is.changed

pub ruleset plan_laws = (taken_falls)

pub ruleset range_laws = (ranging_fits, ranging_keeps, ranging_ranges, ranging_keeps_tests, ranging_counts)
