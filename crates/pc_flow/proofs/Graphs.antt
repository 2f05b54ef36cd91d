-- A graph in which one node was replaced.
use Rattle.std.proofs.Common.{◌≡◌, ℕ, ◌<◌, ◌≤◌, inl, inr, List, length, Option, Some, None, sym, ◌∙◌, subst}
use Rattle.std.specs.Prelude.{slice_set}
use Rattle.pc_word.proofs.Lists.{set_at, set_length}
use Rattle.pc_word.specs.SourceLimits.{most_nodes}
use Rattle.pc_flow.specs.declared.node.FlowNode.{FlowNode}
use Rattle.pc_flow.specs.declared.node.FlowNode.TheVariants.{Op, Test, Stop, Trap}
use Rattle.pc_flow.specs.FlowGraph.{FlowGraph, IsTarget, Descends, TestFits, NodeFits, IsFlow}

-- the graph with other nodes, as many as before
module _ (flow : FlowGraph) (nodes : List FlowNode) (as_many : length nodes ≡ length flow.nodes) where
  abbrev renewed : FlowGraph
  renewed = record flow { nodes = nodes }

  target-renewed : (to : ℕ) → IsTarget flow to → IsTarget renewed to
  target-renewed to h = subst (λ (n : ℕ). to < n) (sym as_many) h

  descends-renewed : (from to : ℕ) → Descends flow from to → Descends renewed from to
  descends-renewed from to h = record { target = target-renewed to h.target; lower = h.lower }

  test-renewed : (from on_yes on_no : ℕ) (turn : Option ℕ) → TestFits flow from on_yes on_no turn → TestFits renewed from on_yes on_no turn
  test-renewed from on_yes on_no None h = (descends-renewed from on_yes h.0, descends-renewed from on_no h.1)
  test-renewed from on_yes on_no (Some turn) h = (target-renewed on_yes h.0, target-renewed on_no h.1, h.2)

  -- a node fits there as before
  pub node-renewed : (from : ℕ) (node : FlowNode) → NodeFits flow from node → NodeFits renewed from node
  node-renewed from (Op item to) h = (h.0, descends-renewed from to h.1)
  node-renewed from (Test on on_yes on_no turn) h = (h.0, test-renewed from on_yes on_no turn h.1)
  node-renewed from Stop h = tt
  node-renewed from (Trap kind line) h = tt

-- a graph stays one where a node that fits takes the place of another
pub set_node_keeps : (flow : FlowGraph) (at : ℕ) (node : FlowNode) → IsFlow flow → NodeFits flow at node
    → IsFlow (record flow { nodes = slice_set flow.nodes at node })
set_node_keeps flow at node is fits =
    let as_many = set_length flow.nodes at node in
    record {
      some_nodes = subst (λ (n : ℕ). 1 ≤ n) (sym as_many) is.some_nodes;
      few_nodes = subst (λ (n : ℕ). n ≤ most_nodes) (sym as_many) is.few_nodes;
      all_ranked = is.all_ranked ∙ sym as_many;
      all_placed = is.all_placed ∙ sym as_many;
      begins = subst (λ (n : ℕ). flow.entry < n) (sym as_many) is.begins;
      few_arrays = is.few_arrays;
      data_fit = is.data_fit;
      data_words = is.data_words;
      loops_there = is.loops_there;
      outer_first = is.outer_first;
      nodes_fit = λ number other e. node-renewed flow (slice_set flow.nodes at node) as_many number other
          (elim (set_at flow.nodes at number node other e) [
            | inl h ↦ subst (λ (n : ℕ). NodeFits flow n other) (sym h.0) (subst (NodeFits flow at) (sym h.1) fits)
            | inr h ↦ is.nodes_fit number other h.1
          ]);
    }

-- a graph stays one where it begins at another of its nodes
pub set_entry_keeps : (flow : FlowGraph) (at : ℕ) → IsFlow flow → IsTarget flow at → IsFlow (record flow { entry = at })
set_entry_keeps flow at is there = record {
  some_nodes = is.some_nodes;
  few_nodes = is.few_nodes;
  all_ranked = is.all_ranked;
  all_placed = is.all_placed;
  begins = there;
  few_arrays = is.few_arrays;
  data_fit = is.data_fit;
  data_words = is.data_words;
  loops_there = is.loops_there;
  outer_first = is.outer_first;
  nodes_fit = λ number node e. same_fits flow at number node (is.nodes_fit number node e);
}
  where
    same_fits : (flow : FlowGraph) (at from : ℕ) (node : FlowNode) → NodeFits flow from node → NodeFits (record flow { entry = at }) from node
    same_fits flow at from (Op item to) h = (h.0, record { target = h.1.target; lower = h.1.lower })
    same_fits flow at from (Test on on_yes on_no None) h =
        (h.0, (record { target = h.1.0.target; lower = h.1.0.lower }, record { target = h.1.1.target; lower = h.1.1.lower }))
    same_fits flow at from (Test on on_yes on_no (Some turn)) h = h
    same_fits flow at from Stop h = tt
    same_fits flow at from (Trap kind line) h = tt
