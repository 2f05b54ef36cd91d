-- A graph in which nodes are skipped: what is common to the passes that do so.
use Rattle.std.proofs.Common.{◌≡◌, ℕ, ◌<◌, List, length, map, Option, Some, None, sym, ◌∙◌, ap, subst, arith}
use Rattle.std.specs.Prelude.{slice_get, slice_index}
use Rattle.std.proofs.lemmas.List.{length-map}
use Rattle.std.proofs.lemmas.Option.{slice_get_within}
use Rattle.pc_flow.specs.declared.node.FlowNode.{FlowNode}
use Rattle.pc_flow.specs.declared.node.FlowNode.TheVariants.{Op, Test, Stop, Trap}
use Rattle.pc_flow.specs.FlowGraph.{FlowGraph, IsTarget, HasEdge, TestFits, NodeFits, IsFlow, KeepsTurn, tested_loop}
use Rattle.pc_flow.specs.Reachable.{IsReachableNode, Entry, Behind}
use Rattle.pc_pass.specs.models.Change.{LeadsPast}
use Rattle.pc_pass.proofs.Changes.{edge_target, node_there}
use Rattle.pc_scalar.specs.declared.plan.Plan.{Plan}
use Rattle.pc_scalar.specs.LoopTests.{IsLoopTest, KeepsLoopTests}
use Rattle.pc_scalar.specs.models.Plan.{Fits, planned}
use Rattle.pc_scalar.specs.models.Ends.{Jump, FallsAlong, AreEnds, NodeThere, led}
use Rattle.pc_scalar.proofs.Chains.{stays_end, end_falls, end_leads_past, led_fits, led_turn, edge_led, edge_led_from, keeps_turn}
use Rattle.pc_word.proofs.Places.{map_at}

-- ---- edges

pub sides_there : (flow : FlowGraph) (at on_yes on_no : ℕ) (turn : Option ℕ) → TestFits flow at on_yes on_no turn
    → IsTarget flow on_yes × IsTarget flow on_no
sides_there flow at on_yes on_no None h = (h.0.target, h.1.target)
sides_there flow at on_yes on_no (Some turn) h = (h.0, h.1)

-- the edges of a node that fits lead to nodes that are there
pub fits_there : (flow : FlowGraph) (at count : ℕ) (node : FlowNode) → count ≡ length flow.nodes → NodeFits flow at node → NodeThere count node
fits_there flow at count (Op item to) e fits = subst (λ (n : ℕ). to < n) (sym e) fits.1.target
fits_there flow at count (Test on on_yes on_no turn) e fits =
    let sides = sides_there flow at on_yes on_no turn fits.1 in
    (subst (λ (n : ℕ). on_yes < n) (sym e) sides.0, subst (λ (n : ℕ). on_no < n) (sym e) sides.1)
fits_there flow at count Stop e fits = tt
fits_there flow at count (Trap kind line) e fits = tt

-- nodes that are made of others and their numbers, with the same edges
pub record KeepsEdges (flow : FlowGraph) (made : ℕ → FlowNode → FlowNode) : Type 0 where
  pub fits : (at : ℕ) (node : FlowNode) → NodeFits flow at node → NodeFits flow at (made at node)
  pub turn : (at : ℕ) (node : FlowNode) → tested_loop (made at node) ≡ tested_loop node
  pub edge : (at : ℕ) (node : FlowNode) (to : ℕ) → HasEdge node to → HasEdge (made at node) to
  pub edge_from : (at : ℕ) (node : FlowNode) (to : ℕ) → HasEdge (made at node) to → HasEdge node to

-- as many nodes as a graph has, made of those, with edges to the ends
pub record AreMade (flow : FlowGraph) (ends : List ℕ) (made : ℕ → FlowNode → FlowNode) (nodes : List FlowNode) : Type 0 where
  pub as_many : length nodes ≡ length flow.nodes
  pub each : (at : ℕ) (node : FlowNode) → slice_get flow.nodes at ≡ Some node → slice_get nodes at ≡ Some (led ends (made at node))

-- so are the images of the nodes
pub mapped_made : (flow : FlowGraph) (ends : List ℕ) (made : FlowNode → FlowNode) (nodes : List FlowNode)
    → nodes ≡ map (λ node. led ends (made node)) flow.nodes → AreMade flow ends (λ at. made) nodes
mapped_made flow ends made nodes e = record {
  as_many = ap length e ∙ length-map flow.nodes (λ n. led ends (made n));
  each = λ at node there. rw e (map_at (λ n. led ends (made n)) flow.nodes at node there);
}

-- a plan by which nodes are made of others, and edges lead to the ends of the chains of a table
pub record IsSkipping (flow : FlowGraph) (plan : Plan) (table ends : List ℕ) (made : ℕ → FlowNode → FlowNode) : Type 0 where
  pub is_flow : IsFlow flow
  pub falls : FallsAlong flow table
  pub are_ends : AreEnds table ends
  pub nodes : AreMade flow ends made plan.nodes
  pub entry : plan.entry ≡ slice_index ends flow.entry
  pub keeps : KeepsEdges flow made

module _ (flow : FlowGraph) (plan : Plan) (table ends : List ℕ) (made : ℕ → FlowNode → FlowNode) (is : IsSkipping flow plan table ends made) where
  abbrev new : FlowGraph
  new = planned plan flow

  -- what stands in the new graph
  pub new_there : (at : ℕ) (node : FlowNode) → slice_get flow.nodes at ≡ Some node → slice_get new.nodes at ≡ Some (led ends (made at node))
  new_there at node there = is.nodes.each at node there

  -- and what it was made of
  pub new_made_of : (at : ℕ) (node : FlowNode) → slice_get new.nodes at ≡ Some node
      → (before : FlowNode) × (slice_get flow.nodes at ≡ Some before) × (led ends (made at before) ≡ node)
  new_made_of at node there =
      let long = is.nodes.as_many in
      let found = node_there flow.nodes at (let within = slice_get_within new.nodes at node there in omega (arith, within, long)) in
      let made_there = is.nodes.each at found.0 found.1 in
      (found.0, found.1, let same : led ends (made at found.0) ≡ node = (cc) in same)

  -- there are as many nodes
  pub new_as_many : length new.nodes ≡ length flow.nodes
  new_as_many = is.nodes.as_many

  -- the plan fits
  pub skipping_fits : Fits flow plan
  skipping_fits = record {
    nodes = record {
      as_many = new_as_many;
      each = λ at old other there stands.
          let made_there = new_there at old there in
          let same : led ends (made at old) ≡ other = (cc) in
          let fits = led_fits flow table ends is.falls is.are_ends at (made at old) (is.keeps.fits at old (is.is_flow.nodes_fit at old there)) in (
            subst (NodeFits flow at) same fits,
            subst (KeepsTurn old) same (keeps_turn old (led ends (made at old)) (led_turn ends (made at old) ∙ is.keeps.turn at old)),
          );
    };
    entry = rw is.entry ((end_falls flow table ends is.falls is.are_ends flow.entry is.is_flow.begins).0);
  }

  -- an edge leads past the nodes that are skipped
  pub end_leads : (to : ℕ) → IsTarget flow to → LeadsPast (Jump table) to (slice_index ends to)
  end_leads to there = end_leads_past table to (slice_index ends to) (is.are_ends.each to (omega (arith, is.falls.as_many)))

  -- no other node takes the place of one to which it leads
  pub end_stays : (to : ℕ) → IsTarget flow to → slice_index table (slice_index ends to) ≡ slice_index ends to
  end_stays to there = (is.are_ends.each to (omega (arith, is.falls.as_many))).stays

  -- the place of a node that can be reached is its own
  pub reachable_stays : (at : ℕ) → IsReachableNode new at → slice_index table at ≡ at
  reachable_stays _ Entry = rw is.entry (end_stays flow.entry is.is_flow.begins)
  reachable_stays _ (Behind {from = from} {to = at} {node = node} reached there edge) =
      let before = new_made_of from node there in
      let led_edge : HasEdge (led ends (made from before.0)) at = subst (λ (n : FlowNode). HasEdge n at) (sym before.2) edge in
      let next = edge_led_from ends (made from before.0) at led_edge in
      let target = edge_target flow from next.0 before.0 (is.is_flow.nodes_fit from before.0 before.1) (is.keeps.edge_from from before.0 next.0 next.1) in
      subst (λ (n : ℕ). slice_index table n ≡ n) next.2 (end_stays next.0 target)

  -- where no test of a loop is skipped, all are kept
  module _ (stay : (to turn : ℕ) → IsLoopTest flow to turn → slice_index table to ≡ to) where
    loop_test_ends : (to turn : ℕ) → IsLoopTest flow to turn → slice_index ends to ≡ to
    loop_test_ends to turn test =
        stays_end table to (slice_index ends to) (stay to turn test) (end_leads to (slice_get_within flow.nodes to test.node test.there)).way

    pub skipping_keeps_tests : KeepsLoopTests flow new
    skipping_keeps_tests = record {
      stay = λ at turn test. record {
        node = led ends (made at test.node);
        there = new_there at test.node test.there;
        tests = led_turn ends (made at test.node) ∙ is.keeps.turn at test.node ∙ test.tests;
      };
      led = λ from to turn test edge. record {
        node = led ends (made from edge.node);
        there = new_there from edge.node edge.there;
        edge = subst (HasEdge (led ends (made from edge.node))) (loop_test_ends to turn test)
            (edge_led ends (made from edge.node) to (is.keeps.edge from edge.node to edge.edge));
      };
      begins = λ turn test. is.entry ∙ loop_test_ends flow.entry turn test;
    }
