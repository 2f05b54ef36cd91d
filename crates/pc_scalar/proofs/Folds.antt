-- Folded nodes, and the graph that they make.
use Rattle.std.proofs.Common.{◌≡◌, ◌≢◌, ◌⊎◌, inl, inr, ℕ, ◌<◌, Bool, true, false, List, length, Some, None, refl, sym, ◌∙◌, ap, subst, arith}
use Rattle.std.specs.Prelude.{ℤ, [], if◌then◌else◌, slice_get, slice_index}
use Rattle.std.proofs.lemmas.Bool.{cases_eq}
use Rattle.pc_word.specs.declared.item.Item.{Item}
use Rattle.pc_word.specs.declared.item.Item.TheVariants.{Bin, Copy, Load, Store, Print, Read, More}
use Rattle.pc_word.specs.declared.item.Operand.TheVariants.{Name, Lit}
use Rattle.pc_word.specs.declared.item.OpCode.{OpCode}
use Rattle.pc_word.specs.Word.{holds, word_apply}
use Rattle.pc_word.specs.State.{State}
use Rattle.pc_word.specs.Run.{Step, Goes}
use Rattle.pc_word.specs.Items.{dest_of}
use Rattle.pc_word.specs.Row.{item_step}
use Rattle.pc_flow.specs.declared.node.FlowNode.{FlowNode}
use Rattle.pc_flow.specs.declared.node.FlowNode.TheVariants.{Op, Test, Stop, Trap}
use Rattle.pc_flow.specs.FlowGraph.{FlowGraph, ItemFits, IsTarget, HasEdge, Descends, NodeFits, IsFlow, tested_loop}
use Rattle.pc_flow.specs.FlowRun.{FlowState, run_node}
use Rattle.pc_pass.specs.Pass.{Keeps}
use Rattle.pc_flow.specs.Reachable.{IsReachableNode, Behind}
use Rattle.pc_pass.specs.models.Change.{Change, LeadsPast, Becomes, Does, Tests, Stops_too, Traps_too, IsSkipped, IsChange}
use Rattle.pc_pass.proofs.Changes.{change_agrees, change_paces, node_there, reachable_there}
use Rattle.pc_scalar.specs.declared.plan.Plan.{Plan}
use Rattle.pc_scalar.specs.Folded.{IsFolded, is_foldable}
use Rattle.pc_scalar.specs.Tally.{AreMany, without_edges, IsWorkedOn}
use Rattle.pc_scalar.specs.LoopTests.{KeepsLoopTests}
use Rattle.pc_scalar.specs.models.Plan.{Fits, planned}
use Rattle.pc_scalar.specs.models.Ends.{Jump, FallsAlong, NodeThere, led}
use Rattle.pc_scalar.specs.models.Folding.{folded_item, folded, taken, AreTaken, IsFolding}
use Rattle.pc_scalar.proofs.Skipping.{sides_there, fits_there, KeepsEdges, IsSkipping, mapped_made, new_there, new_made_of}
use Rattle.pc_scalar.proofs.Skipping.{new_as_many, skipping_fits, end_leads, reachable_stays, skipping_keeps_tests}
use Rattle.pc_scalar.proofs.Skipped.{Tells, skipping_counts}

-- ---- folded items

-- a folded item writes what the item writes
folded_dest : (item : Item) → dest_of (folded_item item) ≡ dest_of item
folded_dest (Bin op dest (Lit left) (Lit right)) = refl
folded_dest (Bin op dest (Lit left) (Name right)) = refl
folded_dest (Bin op dest (Name left) right) = refl
folded_dest (Copy dest from) = refl
folded_dest (Load dest array index) = refl
folded_dest (Store array index value) = refl
folded_dest (Print value) = refl
folded_dest (Read dest) = refl
folded_dest (More dest) = refl

-- it does the same, in every state
folded_does : (lengths : List ℕ) (item : Item) (to : ℕ) (s : State) → item_step lengths (folded_item item) to s ≡ item_step lengths item to s
folded_does lengths (Bin op dest (Lit left) (Lit right)) to s = refl
folded_does lengths (Bin op dest (Lit left) (Name right)) to s = refl
folded_does lengths (Bin op dest (Name left) right) to s = refl
folded_does lengths (Copy dest from) to s = refl
folded_does lengths (Load dest array index) to s = refl
folded_does lengths (Store array index value) to s = refl
folded_does lengths (Print value) to s = refl
folded_does lengths (Read dest) to s = refl
folded_does lengths (More dest) to s = refl

-- it fits where the item does
folded_item_fits : (arrays : ℕ) (item : Item) → ItemFits arrays item → ItemFits arrays (folded_item item)
folded_item_fits arrays (Bin op dest (Lit left) (Lit right)) h = record { reads = (tt, tt); writes = h.writes; array = tt }
folded_item_fits arrays (Bin op dest (Lit left) (Name right)) h = h
folded_item_fits arrays (Bin op dest (Name left) right) h = h
folded_item_fits arrays (Copy dest from) h = h
folded_item_fits arrays (Load dest array index) h = h
folded_item_fits arrays (Store array index value) h = h
folded_item_fits arrays (Print value) h = h
folded_item_fits arrays (Read dest) h = h
folded_item_fits arrays (More dest) h = h

-- it computes no constant
folded_none : (item : Item) (op : OpCode) (dest : ℕ) (left right : ℤ) → folded_item item ≡ Bin op dest (Lit left) (Lit right) → ⊥
folded_none (Bin o d (Lit l) (Lit r)) op dest left right e = cc
folded_none (Bin o d (Lit l) (Name r)) op dest left right e = cc
folded_none (Bin o d (Name l) r) op dest left right e = cc
folded_none (Copy d from) op dest left right e = cc
folded_none (Load d array index) op dest left right e = cc
folded_none (Store array index value) op dest left right e = cc
folded_none (Print value) op dest left right e = cc
folded_none (Read d) op dest left right e = cc
folded_none (More d) op dest left right e = cc

-- ---- folded nodes

folded_fits : (flow : FlowGraph) (at : ℕ) (node : FlowNode) → NodeFits flow at node → NodeFits flow at (folded node)
folded_fits flow at (Op item to) h = (folded_item_fits (length flow.arrays) item h.0, h.1)
folded_fits flow at (Test on on_yes on_no turn) h = h
folded_fits flow at Stop h = h
folded_fits flow at (Trap kind line) h = h

-- the edges of a folded node lead to nodes that are there
pub folded_there : (flow : FlowGraph) (at count : ℕ) (node : FlowNode) → count ≡ length flow.nodes → NodeFits flow at node → NodeThere count (folded node)
folded_there flow at count node e fits = fits_there flow at count (folded node) e (folded_fits flow at node fits)

folded_turn : (node : FlowNode) → tested_loop (folded node) ≡ tested_loop node
folded_turn (Op item to) = refl
folded_turn (Test on on_yes on_no turn) = refl
folded_turn Stop = refl
folded_turn (Trap kind line) = refl

folded_edge : (node : FlowNode) (to : ℕ) → HasEdge node to → HasEdge (folded node) to
folded_edge (Op item next) to e = e
folded_edge (Test on on_yes on_no turn) to e = e
folded_edge Stop to e = e
folded_edge (Trap kind line) to e = e

folded_edge_from : (node : FlowNode) (to : ℕ) → HasEdge (folded node) to → HasEdge node to
folded_edge_from (Op item next) to e = e
folded_edge_from (Test on on_yes on_no turn) to e = e
folded_edge_from Stop to e = e
folded_edge_from (Trap kind line) to e = e

-- ---- sides that are taken

-- what holds of both sides holds of the one that is taken
one_of : (P : ℕ → Type 0) (b : Bool) (on_yes on_no : ℕ) → P on_yes → P on_no → P (if b then on_yes else on_no)
one_of P true on_yes on_no h k = h
one_of P false on_yes on_no h k = k

-- the side that is taken of a test that is skipped
pub record IsTakenSide (flow : FlowGraph) (at next : ℕ) : Type 0 where
  value : ℤ
  on_yes : ℕ
  on_no : ℕ
  there : slice_get flow.nodes at ≡ Some (Test (Lit value) on_yes on_no None)
  leads : next ≡ (if holds value then on_yes else on_no)

-- a node whose place another takes is such a test
taken_side : (flow : FlowGraph) (at : ℕ) (node : FlowNode) → slice_get flow.nodes at ≡ Some node → taken at node ≢ at → IsTakenSide flow at (taken at node)
taken_side flow at (Op item to) there other = absurd (other refl)
taken_side flow at (Test (Name name) on_yes on_no turn) there other = absurd (other refl)
taken_side flow at (Test (Lit value) on_yes on_no None) there other = record { value = value; on_yes = on_yes; on_no = on_no; there = there; leads = refl }
taken_side flow at (Test (Lit value) on_yes on_no (Some turn)) there other = absurd (other refl)
taken_side flow at Stop there other = absurd (other refl)
taken_side flow at (Trap kind line) there other = absurd (other refl)

-- it is one to which an edge leads
edge_taken : (b : Bool) (on_yes on_no next : ℕ) → next ≡ (if b then on_yes else on_no) → (on_yes ≡ next) ⊎ (on_no ≡ next)
edge_taken true on_yes on_no next e = inl (sym e)
edge_taken false on_yes on_no next e = inr (sym e)

-- no other takes the place of a loop's test
taken_of_loop : (at turn : ℕ) (node : FlowNode) → tested_loop node ≡ Some turn → taken at node ≡ at
taken_of_loop at turn (Op item to) e = refl
taken_of_loop at turn (Test (Name name) on_yes on_no loop) e = refl
taken_of_loop at turn (Test (Lit value) on_yes on_no None) e = absurd (cc)
taken_of_loop at turn (Test (Lit value) on_yes on_no (Some loop)) e = refl
taken_of_loop at turn Stop e = refl
taken_of_loop at turn (Trap kind line) e = refl

side_descends : (flow : FlowGraph) (at next : ℕ) → IsFlow flow → IsTakenSide flow at next → Descends flow at next
side_descends flow at next is side =
    let fits = (is.nodes_fit at (Test (Lit side.value) side.on_yes side.on_no None) side.there).1 in
    subst (Descends flow at) (sym side.leads) (one_of (Descends flow at) (holds side.value) side.on_yes side.on_no fits.0 fits.1)

module _ (flow : FlowGraph) (table : List ℕ) (are : AreTaken flow table) where
  jump_side : (at : ℕ) → at < length flow.nodes → slice_index table at ≢ at → IsTakenSide flow at (slice_index table at)
  jump_side at there other =
      let found = node_there flow.nodes at there in
      let is = are.each at found.0 found.1 in
      subst (IsTakenSide flow at) (sym is) (taken_side flow at found.0 found.1 (λ same. other (is ∙ same)))

  -- the table falls along
  pub taken_falls : FallsAlong flow table
  taken_falls = record {
    as_many = are.as_many;
    there = λ at low. side_there at (omega (arith, are.as_many));
    falls = λ at low other. (side_descends flow at (slice_index table at) are.is_flow (jump_side at (omega (arith, are.as_many)) other)).lower;
  }
    where
      side_there : (at : ℕ) → at < length flow.nodes → slice_index table at < length table
      side_there at low = elim (cases_eq (slice_index table at) at) [
        | inl same ↦ omega (arith, are.as_many, same)
        | inr other ↦ let h = side_descends flow at (slice_index table at) are.is_flow (jump_side at low other) in omega (arith, are.as_many, h.target)
      ]

-- ---- the folded graph

-- folded nodes have the edges that they had
folded_keeps : (flow : FlowGraph) → KeepsEdges flow (λ at. folded)
folded_keeps flow = record { fits = folded_fits flow; turn = λ at. folded_turn; edge = λ at. folded_edge; edge_from = λ at. folded_edge_from }

-- folding skips the tests of literals
is_skipping : (flow : FlowGraph) (plan : Plan) (is : IsFolding flow plan) → IsSkipping flow plan is.table is.ends (λ at. folded)
is_skipping flow plan is = record {
  is_flow = is.taken_sides.is_flow;
  falls = taken_falls flow is.table is.taken_sides;
  are_ends = is.are_ends;
  nodes = mapped_made flow is.ends folded plan.nodes is.nodes;
  entry = is.entry;
  keeps = folded_keeps flow;
}

module _ (flow : FlowGraph) (plan : Plan) (is : IsFolding flow plan) where
  abbrev new : FlowGraph
  new = planned plan flow

  -- the plan fits
  pub folding_fits : Fits flow plan
  folding_fits = skipping_fits flow plan is.table is.ends (λ at. folded) (is_skipping flow plan is)

  -- ---- it shows what the graph shows

  -- every state is possible, and all variables matter
  abbrev change : Change
  change = record { old = flow; new = new; Skips = Jump is.table; Knows = λ at s. Unit {0}; Matters = λ at x. Unit {0} }

  leads : (to : ℕ) → IsTarget flow to → LeadsPast (Jump is.table) to (slice_index is.ends to)
  leads = end_leads flow plan is.table is.ends (λ at. folded) (is_skipping flow plan is)

  node_becomes : (at : ℕ) (node : FlowNode) → NodeFits flow at node → Becomes change at node (led is.ends (folded node))
  node_becomes at (Op item to) fits = Does (record {
    leads = leads to fits.1.target;
    same_dest = folded_dest item;
    does_same = λ s known. folded_does flow.arrays item to s;
    reads = λ x h. tt;
    passes = λ x h k. tt;
    knows = λ s after printed known h. tt;
  })
  node_becomes at (Test on on_yes on_no turn) fits =
      let sides = sides_there flow at on_yes on_no turn fits.1 in
      Tests (record { same_value = λ s known. refl; reads = λ x h. tt })
      (record { leads = leads on_yes sides.0; passes = λ x h. tt; knows = λ s h side. tt })
      (record { leads = leads on_no sides.1; passes = λ x h. tt; knows = λ s h side. tt })
  node_becomes at Stop fits = Stops_too
  node_becomes at (Trap kind line) fits = Traps_too

  -- a test of a literal does nothing but go to the side that is taken
  skips : (at next : ℕ) → IsReachableNode flow at → Jump is.table at next → IsSkipped change at next
  skips at next reached jump =
      let there = reachable_there flow at is.taken_sides.is_flow reached in
      let jumped = jump_side flow is.table is.taken_sides at there (λ same. jump.other (sym jump.leads ∙ same)) in
      let side : IsTakenSide flow at next = subst (IsTakenSide flow at) jump.leads jumped in
      record {
        lower = (side_descends flow at next is.taken_sides.is_flow side).lower;
        reached = λ h. Behind h side.there (edge_taken (holds side.value) side.on_yes side.on_no next side.leads);
        passes = λ x h. tt;
        does_nothing = λ s known. record {
          after = s;
          steps = ap (run_node flow.arrays s) side.there ∙ ap (λ (n : ℕ). let went : Step FlowState = Goes [] (record { node = n; state = s }) in went) (sym side.leads);
          known = tt;
          same_cells = refl;
          same_input = refl;
          same_names = λ x h. refl;
        };
      }

  is_change : IsChange change
  is_change = record {
    is_flow = is.taken_sides.is_flow;
    same_arrays = refl;
    same_initial = refl;
    begins = rw is.entry (leads flow.entry is.taken_sides.is_flow.begins);
    known_first = λ input words. tt;
    skips = skips;
    becomes = λ at node reached there stays. record {
      other = led is.ends (folded node);
      there = new_there flow plan is.table is.ends (λ at. folded) (is_skipping flow plan is) at node there;
      becomes = node_becomes at node (is.taken_sides.is_flow.nodes_fit at node there);
    };
  }

  pub folding_keeps : Keeps flow new
  folding_keeps = record {
    agrees = change_agrees change is_change;
    pace = change_paces change is_change;
    as_many = new_as_many flow plan is.table is.ends (λ at. folded) (is_skipping flow plan is);
    same_loops = refl;
    same_inside = refl;
    same_arrays = refl;
    same_initial = refl;
  }

  -- ---- and is folded

  -- a test of a literal that stays is a loop's
  no_literal_test : (at on_yes on_no : ℕ) (value : ℤ) (node : FlowNode) → slice_get flow.nodes at ≡ Some node → slice_index is.table at ≡ at
      → led is.ends (folded node) ≡ Test (Lit value) on_yes on_no None → ⊥
  no_literal_test at on_yes on_no value (Op item to) there stays e = cc
  no_literal_test at on_yes on_no value (Test (Name name) to_yes to_no turn) there stays e = cc
  no_literal_test at on_yes on_no value (Test (Lit word) to_yes to_no (Some turn)) there stays e = cc
  no_literal_test at on_yes on_no value (Test (Lit word) to_yes to_no None) there stays e =
      let side : IsTakenSide flow at (if holds word then to_yes else to_no) = record { value = word; on_yes = to_yes; on_no = to_no; there = there; leads = refl } in
      let lower = (side_descends flow at (if holds word then to_yes else to_no) is.taken_sides.is_flow side).lower in
      let same : (if holds word then to_yes else to_no) ≡ at = sym (is.taken_sides.each at (Test (Lit word) to_yes to_no None) there) ∙ stays in
      let ranks : slice_index flow.ranks (if holds word then to_yes else to_no) ≡ slice_index flow.ranks at = ap (slice_index flow.ranks) same in
      absurd (omega (arith, lower, ranks))
  no_literal_test at on_yes on_no value Stop there stays e = cc
  no_literal_test at on_yes on_no value (Trap kind line) there stays e = cc

  no_constant : (node : FlowNode) (op : OpCode) (dest to : ℕ) (left right : ℤ) → led is.ends (folded node) ≡ Op (Bin op dest (Lit left) (Lit right)) to → ⊥
  no_constant (Op item next) op dest to left right e =
      let same : folded_item item ≡ Bin op dest (Lit left) (Lit right) = (cc) in
      folded_none item op dest left right same
  no_constant (Test on on_yes on_no turn) op dest to left right e = cc
  no_constant Stop op dest to left right e = cc
  no_constant (Trap kind line) op dest to left right e = cc

  pub folding_folds : IsFolded new
  folding_folds = record {
    computes_none = λ at to dest op left right reached there.
        let before = new_made_of flow plan is.table is.ends (λ at. folded) (is_skipping flow plan is) at (Op (Bin op dest (Lit left) (Lit right)) to) there in
        no_constant before.0 op dest to left right before.2;
    tests_none = λ at on_yes on_no value reached there.
        let before = new_made_of flow plan is.table is.ends (λ at. folded) (is_skipping flow plan is) at (Test (Lit value) on_yes on_no None) there in
        no_literal_test at on_yes on_no value before.0 before.1 (reachable_stays flow plan is.table is.ends (λ at. folded) (is_skipping flow plan is) at reached) before.2;
  }

  -- ---- and keeps the tests of loops

  pub folding_keeps_tests : KeepsLoopTests flow new
  folding_keeps_tests = skipping_keeps_tests flow plan is.table is.ends (λ at. folded) (is_skipping flow plan is)
      (λ to turn test. is.taken_sides.each to test.node test.there ∙ taken_of_loop to turn test.node test.tests)

  -- ---- what is counted

  -- an item that becomes a copy is another one
  folded_other : (op : OpCode) (dest to : ℕ) (left right value : ℤ) → without_edges (Op (Copy dest (Lit value)) to) ≢ without_edges (Op (Bin op dest (Lit left) (Lit right)) to)
  folded_other op dest to left right value e = cc

  -- a test that may be skipped is
  place_taken : (at on_yes on_no : ℕ) (value : ℤ) → slice_get flow.nodes at ≡ Some (Test (Lit value) on_yes on_no None) → slice_index is.table at ≢ at
  place_taken at on_yes on_no value there stays = no_literal_test at (slice_index is.ends on_yes) (slice_index is.ends on_no) value (Test (Lit value) on_yes on_no None) there stays refl

  folding_works : (at : ℕ) (node : FlowNode) → slice_get flow.nodes at ≡ Some node → is_foldable node ≡ true
      → (without_edges (folded node) ≢ without_edges node) ⊎ (slice_index is.table at ≢ at)
  folding_works at (Op (Bin op dest (Lit left) (Lit right)) to) there e = inl (folded_other op dest to left right (word_apply op left right))
  folding_works at (Op (Bin op dest (Lit left) (Name right)) to) there e = absurd (cc)
  folding_works at (Op (Bin op dest (Name left) right) to) there e = absurd (cc)
  folding_works at (Op (Copy dest from) to) there e = absurd (cc)
  folding_works at (Op (Load dest array index) to) there e = absurd (cc)
  folding_works at (Op (Store array index value) to) there e = absurd (cc)
  folding_works at (Op (Print value) to) there e = absurd (cc)
  folding_works at (Op (Read dest) to) there e = absurd (cc)
  folding_works at (Op (More dest) to) there e = absurd (cc)
  folding_works at (Test (Name name) on_yes on_no turn) there e = absurd (cc)
  folding_works at (Test (Lit value) on_yes on_no None) there e = inr (place_taken at on_yes on_no value there)
  folding_works at (Test (Lit value) on_yes on_no (Some turn)) there e = absurd (cc)
  folding_works at Stop there e = absurd (cc)
  folding_works at (Trap kind line) there e = absurd (cc)

  unfolded : (node : FlowNode) (at : ℕ) → is_foldable node ≡ false → (without_edges (folded node) ≡ without_edges node) × (taken at node ≡ at)
  unfolded (Op (Bin op dest (Lit left) (Lit right)) to) at e = absurd (cc)
  unfolded (Op (Bin op dest (Lit left) (Name right)) to) at e = (refl, refl)
  unfolded (Op (Bin op dest (Name left) right) to) at e = (refl, refl)
  unfolded (Op (Copy dest from) to) at e = (refl, refl)
  unfolded (Op (Load dest array index) to) at e = (refl, refl)
  unfolded (Op (Store array index value) to) at e = (refl, refl)
  unfolded (Op (Print value) to) at e = (refl, refl)
  unfolded (Op (Read dest) to) at e = (refl, refl)
  unfolded (Op (More dest) to) at e = (refl, refl)
  unfolded (Test (Name name) on_yes on_no turn) at e = (refl, refl)
  unfolded (Test (Lit value) on_yes on_no None) at e = absurd (cc)
  unfolded (Test (Lit value) on_yes on_no (Some turn)) at e = (refl, refl)
  unfolded Stop at e = (refl, refl)
  unfolded (Trap kind line) at e = (refl, refl)

  folding_tells : Tells flow is.table (λ at. folded) (λ at. is_foldable)
  folding_tells = record {
    worked = folding_works;
    left = λ at node there e. let it = unfolded node at e in (it.0, is.taken_sides.each at node there ∙ it.1);
  }

  pub folding_counts : AreMany (IsWorkedOn flow new) (length flow.nodes) plan.changed
  folding_counts = skipping_counts flow plan is.table is.ends (λ at. folded) (is_skipping flow plan is) (λ at. is_foldable) folding_tells is.changed

pub ruleset plan_laws = (taken_falls)

pub ruleset fold_laws = (folding_fits, folding_keeps, folding_folds, folding_keeps_tests, folding_counts)
