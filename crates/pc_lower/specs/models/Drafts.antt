-- A flow graph in the making: all its nodes are there from the start, and are placed one after the other. A node that is
-- not placed yet has rank 0 and stops; each one that is placed gets a rank above all before it.
use Rattle.std.specs.Prelude.{◌≡◌, ℕ, zero, suc, ℤ, ◌+◌, ◌<◌, ◌≤◌, All, List, [], ◌∷◌, length, replicate, Option, Some, None, IfSome, slice_get, slice_set, slice_index}
use Rattle.pc_word.specs.Data.{AreData}
use Rattle.pc_word.specs.SourceLimits.{most_nodes}
use Rattle.pc_word.specs.Word.{IsWord}
use Rattle.pc_word.specs.MachineLimits.{most_arrays}
use Rattle.pc_word.specs.declared.item.Operand.{Operand}
use Rattle.pc_word.specs.declared.loop_mark.LoopMark.{LoopMark}
use Rattle.pc_flow.specs.declared.node.FlowNode.{FlowNode}
use Rattle.pc_flow.specs.declared.node.FlowNode.TheVariants.{Op, Test, Stop, Trap}
use Rattle.pc_flow.specs.FlowGraph.{FlowGraph, IsFlow, ItemFits, IsVariable, IsTarget, tested_loop}
use Rattle.pc_lower.specs.LoopTests.{HasTest, TestsInside}

-- the graph, and the greatest rank so far
pub record Draft : Type 0 where
  pub graph : FlowGraph
  pub ranked : ℕ

-- a number that a node has which was placed
pub record IsPlaced (graph : FlowGraph) (number : ℕ) : Type 0 where
  pub there : IsTarget graph number
  pub ranked : 1 ≤ slice_index graph.ranks number

-- a number that a node has which was not placed yet
pub record IsOpen (graph : FlowGraph) (number : ℕ) : Type 0 where
  pub there : IsTarget graph number
  pub unranked : slice_index graph.ranks number ≡ 0

-- the edges of a node lead to nodes that were placed; those of a loop's test to any that are there
abbrev pub LeadsToPlaced : FlowGraph → FlowNode → Type 0
LeadsToPlaced graph (Op item to) = IsPlaced graph to
LeadsToPlaced graph (Test on on_yes on_no None) = IsPlaced graph on_yes × IsPlaced graph on_no
LeadsToPlaced graph (Test on on_yes on_no (Some turn)) =
    IsTarget graph on_yes × IsTarget graph on_no × (turn < length graph.loops)
LeadsToPlaced graph Stop = Unit {0}
LeadsToPlaced graph (Trap kind line) = Unit {0}

-- the names and the array of a node are there
abbrev pub HasNames : FlowGraph → FlowNode → Type 0
HasNames graph (Op item to) = ItemFits (length graph.arrays) item
HasNames graph (Test on on_yes on_no turn) = IsVariable on
HasNames graph Stop = Unit {0}
HasNames graph (Trap kind line) = Unit {0}

-- a node that may be placed
pub record MayPlace (graph : FlowGraph) (node : FlowNode) : Type 0 where
  pub names : HasNames graph node
  pub leads : LeadsToPlaced graph node

-- a node stands where it may: the test of a loop in that loop
abbrev pub StandsIn : Option ℕ → FlowNode → Type 0
StandsIn inside node = IfSome (tested_loop node) (λ turn. inside ≡ Some turn)

-- a node may be placed at a number, inside a loop that there is or none, while there are ranks
pub record CanPlace (draft : Draft) (at : ℕ) (node : FlowNode) (inside : Option ℕ) : Type 0 where
  pub at_open : IsOpen draft.graph at
  pub fits : MayPlace draft.graph node
  pub room : draft.ranked < most_nodes
  pub loop_there : IfSome inside (λ loop. loop < length draft.graph.loops)
  pub stands : StandsIn inside node

-- what every draft keeps
pub record IsDraft (draft : Draft) : Type 0 where
  pub flow : IsFlow draft.graph
  pub leads : (number : ℕ) (node : FlowNode) → slice_get draft.graph.nodes number ≡ Some node → LeadsToPlaced draft.graph node
  pub tests_inside : TestsInside draft.graph
  pub below : (number : ℕ) → slice_index draft.graph.ranks number ≤ draft.ranked
  pub few : draft.ranked ≤ most_nodes

-- the graph with a node placed at an open number
abbrev pub graph_with : ℕ → FlowNode → Option ℕ → ℕ → FlowGraph → FlowGraph
graph_with at node inside rank graph = record graph {
  nodes = slice_set graph.nodes at node;
  ranks = slice_set graph.ranks at rank;
  inside = slice_set graph.inside at inside;
}

-- and the draft
abbrev pub draft_with : ℕ → FlowNode → Option ℕ → Draft → Draft
draft_with at node inside draft = record {
  graph = graph_with at node inside (draft.ranked + 1) draft.graph;
  ranked = draft.ranked + 1;
}

-- ---- the test of a loop, which may lead to what is placed later

-- a node that was placed is the test of a loop
pub record PlacedTest (graph : FlowGraph) (at loop : ℕ) : Type 0 where
  pub test : HasTest graph at loop
  pub placed : IsPlaced graph at

-- a loop has a test that was placed
abbrev pub IsTested : FlowGraph → ℕ → Type 0
IsTested graph loop = (at : ℕ) × PlacedTest graph at loop

-- a loop's test that may stand at a number
pub record CanAim (draft : Draft) (at : ℕ) (on : Operand) (on_yes on_no turn : ℕ) : Type 0 where
  pub there : IsTarget draft.graph at
  pub names : IsVariable on
  pub yes_there : IsTarget draft.graph on_yes
  pub no_there : IsTarget draft.graph on_no
  pub turn_there : turn < length draft.graph.loops

-- the draft with another node in the place of one
abbrev pub aimed : ℕ → FlowNode → Draft → Draft
aimed at node draft = record draft { graph = record draft.graph { nodes = slice_set draft.graph.nodes at node } }

-- ---- the header of a loop

-- marks with another header of one loop
abbrev pub with_header : List LoopMark → (number header : ℕ) → List LoopMark
with_header [] number header = []
with_header (mark ∷ marks) zero header = record mark { header = header } ∷ marks
with_header (mark ∷ marks) (suc number) header = mark ∷ with_header marks number header

-- the draft with the header of a loop
abbrev pub headed : (number header : ℕ) → Draft → Draft
headed number header draft = record draft { graph = record draft.graph { loops = with_header draft.graph.loops number header } }

-- ---- from the first to the last

-- loops, arrays and data that a graph may have
pub record MayBegin (count : ℕ) (loops : List LoopMark) (arrays : List ℕ) (initial : List (List ℤ)) : Type 0 where
  pub some_nodes : 1 ≤ count
  pub few_nodes : count ≤ most_nodes
  pub few_arrays : length arrays ≤ most_arrays
  pub data_fit : AreData arrays initial
  pub data_words : All (All IsWord) initial
  pub outer_first : (loop : ℕ) (mark : LoopMark) → slice_get loops loop ≡ Some mark → IfSome mark.outer (λ outer. outer < loop)

-- so many nodes, of which none is placed
abbrev pub first_draft : ℕ → List LoopMark → List ℕ → List (List ℤ) → Draft
first_draft count loops arrays initial = record {
  graph = record {
    nodes = replicate count Stop;
    ranks = replicate count 0;
    inside = replicate count None;
    entry = 0;
    loops = loops;
    arrays = arrays;
    initial = initial;
  };
  ranked = 0;
}
