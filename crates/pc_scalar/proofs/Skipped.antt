-- The nodes that are counted where nodes are made of others and some are skipped.
use Rattle.std.proofs.Common.{◌≡◌, ◌≢◌, ◌⊎◌, inl, inr, ℕ, Bool, true, false, List, length, Some, refl, sym, ◌∙◌, ap, subst}
use Rattle.std.specs.Prelude.{slice_get, slice_index}
use Rattle.pc_flow.specs.declared.node.FlowNode.{FlowNode}
use Rattle.pc_flow.specs.declared.node.FlowNode.TheVariants.{Op, Test, Stop, Trap}
use Rattle.pc_flow.specs.FlowGraph.{FlowGraph, HasEdge}
use Rattle.pc_flow.specs.Reachable.{IsReachableNode, Entry, Behind}
use Rattle.pc_pass.proofs.Changes.{edge_target, node_there, reachable_there}
use Rattle.pc_scalar.specs.declared.plan.Plan.{Plan}
use Rattle.pc_scalar.specs.LoopTests.{IsEdge}
use Rattle.pc_scalar.specs.Tally.{AreMany, without_edges, IsSkippedNode, IsWorkedOn}
use Rattle.pc_scalar.specs.models.Counted.{IsReachedAnd}
use Rattle.pc_scalar.specs.models.Ends.{led}
use Rattle.pc_scalar.specs.models.Plan.{planned}
use Rattle.pc_scalar.proofs.Chains.{stays_end, edge_led, edge_led_from}
use Rattle.pc_scalar.proofs.Skipping.{IsSkipping, new_there, new_made_of, end_leads, end_stays}
use Rattle.pc_scalar.proofs.Tallies.{many_same}

-- a node differs from another one as much where its edges lead to the ends
led_without : (ends : List ℕ) (node : FlowNode) → without_edges (led ends node) ≡ without_edges node
led_without ends (Op item to) = refl
led_without ends (Test on on_yes on_no turn) = refl
led_without ends Stop = refl
led_without ends (Trap kind line) = refl

-- a test tells the nodes that are changed or skipped
pub record Tells (flow : FlowGraph) (table : List ℕ) (made : ℕ → FlowNode → FlowNode) (test : ℕ → FlowNode → Bool) : Type 0 where
  pub worked : (at : ℕ) (node : FlowNode) → slice_get flow.nodes at ≡ Some node → test at node ≡ true
      → (without_edges (made at node) ≢ without_edges node) ⊎ (slice_index table at ≢ at)
  pub left : (at : ℕ) (node : FlowNode) → slice_get flow.nodes at ≡ Some node → test at node ≡ false
      → (without_edges (made at node) ≡ without_edges node) × (slice_index table at ≡ at)

module _ (flow : FlowGraph) (plan : Plan) (table ends : List ℕ) (made : ℕ → FlowNode → FlowNode) (is : IsSkipping flow plan table ends made) where
  abbrev new : FlowGraph
  new = planned plan flow

  -- an edge of the new graph leads to a node that keeps its place
  edge_stays : (from at : ℕ) → IsEdge new from at → slice_index table at ≡ at
  edge_stays from at leads =
      let before = new_made_of flow plan table ends made is from leads.node leads.there in
      let led_edge : HasEdge (led ends (made from before.0)) at = subst (λ (n : FlowNode). HasEdge n at) (sym before.2) leads.edge in
      let next = edge_led_from ends (made from before.0) at led_edge in
      let target = edge_target flow from next.0 before.0 (is.is_flow.nodes_fit from before.0 before.1) (is.keeps.edge_from from before.0 next.0 next.1) in
      subst (λ (n : ℕ). slice_index table n ≡ n) next.2 (end_stays flow plan table ends made is next.0 target)

  -- so does the node where it begins
  entry_stays : slice_index table new.entry ≡ new.entry
  entry_stays = rw is.entry (end_stays flow plan table ends made is flow.entry is.is_flow.begins)

  -- a node whose place another takes is skipped
  is_skipped : (at : ℕ) → IsReachableNode flow at → slice_index table at ≢ at → IsSkippedNode flow new at
  is_skipped at reached other = record {
    reached = reached;
    not_entry = λ e. other (subst (λ (n : ℕ). slice_index table n ≡ n) (sym e) entry_stays);
    led_past = λ from before leads. other (edge_stays from at leads);
  }

  -- one that keeps its place is not
  not_skipped : (at : ℕ) → IsReachableNode flow at → slice_index table at ≡ at → at ≢ new.entry
      → ((from : ℕ) → IsReachableNode flow from → IsEdge new from at → ⊥) → ⊥
  not_skipped _ Entry stays not_entry led_past =
      not_entry (sym (is.entry ∙ stays_end table flow.entry (slice_index ends flow.entry) stays (end_leads flow plan table ends made is flow.entry is.is_flow.begins).way))
  not_skipped _ (Behind {from = from} {to = at} {node = node} reached there edge) stays not_entry led_past =
      let target = edge_target flow from at node (is.is_flow.nodes_fit from node there) edge in
      let end = stays_end table at (slice_index ends at) stays (end_leads flow plan table ends made is at target).way in
      led_past from reached (record {
        node = led ends (made from node);
        there = new_there flow plan table ends made is from node there;
        edge = subst (HasEdge (led ends (made from node))) end (edge_led ends (made from node) at (is.keeps.edge from node at edge));
      })

  module _ (test : ℕ → FlowNode → Bool) (tells : Tells flow table made test) where
    worked_on : (at : ℕ) → IsReachedAnd test flow at → IsWorkedOn flow new at
    worked_on at h = elim (tells.worked at h.node h.there h.passes) [
      | inl other ↦ inl (record {
        reached = h.reached;
        before = h.node;
        after = led ends (made at h.node);
        was = h.there;
        stands = new_there flow plan table ends made is at h.node h.there;
        other = λ e. other (sym (led_without ends (made at h.node)) ∙ e);
      })
      | inr other ↦ inr (is_skipped at h.reached other)
    ]

    -- a node that the test refuses is neither
    left_alone : (at : ℕ) (node : FlowNode) → slice_get flow.nodes at ≡ Some node → test at node ≡ false → IsWorkedOn flow new at → ⊥
    left_alone at node there e (inl h) =
        let left = tells.left at node there e in
        let was = h.was in
        let stands = h.stands in
        let made_there = new_there flow plan table ends made is at node there in
        let before : node ≡ h.before = (cc) in
        let after : led ends (made at node) ≡ h.after = (cc) in
        h.other (sym (ap without_edges after) ∙ led_without ends (made at node) ∙ left.0 ∙ ap without_edges before)
    left_alone at node there e (inr h) = not_skipped at h.reached (tells.left at node there e).1 h.not_entry h.led_past

    was_there : (at : ℕ) → IsWorkedOn flow new at → (node : FlowNode) × (slice_get flow.nodes at ≡ Some node) × IsReachableNode flow at
    was_there at (inl h) = (h.before, h.was, h.reached)
    was_there at (inr h) =
        let found = node_there flow.nodes at (reachable_there flow at is.is_flow h.reached) in
        (found.0, found.1, h.reached)

    passes : (at : ℕ) (node : FlowNode) (b : Bool) → test at node ≡ b → slice_get flow.nodes at ≡ Some node → IsReachableNode flow at → IsWorkedOn flow new at → IsReachedAnd test flow at
    passes at node true e there reached h = record { reached = reached; node = node; there = there; passes = e }
    passes at node false e there reached h = absurd (left_alone at node there e h)

    passed : (at : ℕ) → IsWorkedOn flow new at → IsReachedAnd test flow at
    passed at h = let was = was_there at h in passes at was.0 (test at was.0) refl was.1 was.2 h

    -- as many nodes were changed or skipped as can be reached and pass the test
    pub skipping_counts : AreMany (IsReachedAnd test flow) (length flow.nodes) plan.changed → AreMany (IsWorkedOn flow new) (length flow.nodes) plan.changed
    skipping_counts are = many_same (IsReachedAnd test flow) (IsWorkedOn flow new) worked_on passed (length flow.nodes) plan.changed are
