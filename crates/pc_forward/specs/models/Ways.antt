-- The only way to each node, as far as the edges of some nodes were noted.
use Rattle.std.specs.Prelude.{◌≡◌, ◌≢◌, ℕ, ◌<◌, List, length, Some, slice_get, slice_set, slice_index_or}
use Rattle.pc_flow.specs.declared.node.FlowNode.{FlowNode}
use Rattle.pc_flow.specs.declared.node.FlowNode.TheVariants.{Op, Test, Stop, Trap}
use Rattle.pc_flow.specs.FlowGraph.{FlowGraph, HasEdge}
use Rattle.pc_flow.specs.Reachable.{IsReachableNode}
use Rattle.pc_forward.specs.declared.ways.Way.{Way}
use Rattle.pc_forward.specs.declared.ways.Way.TheVariants.{Nothing, Only, Several}
use Rattle.pc_forward.specs.Trail.{HasOneEdge, IsOnlyWay}

-- with an edge more
abbrev pub with_edge : ℕ → Way → Way
with_edge from Nothing = Only from
with_edge from (Only other) = Several
with_edge from Several = Several

-- with an edge to a node
abbrev pub with_edge_to : ℕ → (from : ℕ) → List Way → List Way
with_edge_to to from table = slice_set table to (with_edge from (slice_index_or table to Nothing))

-- with the edges of a node
abbrev pub noted : FlowNode → ℕ → List Way → List Way
noted (Op item to) at table = with_edge_to to at table
noted (Test on on_yes on_no turn) at table = with_edge_to on_no at (with_edge_to on_yes at table)
noted Stop at table = table
noted (Trap kind line) at table = table

-- no node with a smaller number, of those that can be reached, leads to a node
abbrev pub NoneLeads : FlowGraph → (bound to : ℕ) → Type 0
NoneLeads flow bound to =
    (other : ℕ) (node : FlowNode) → other < bound → IsReachableNode flow other → slice_get flow.nodes other ≡ Some node → HasEdge node to → ⊥

-- none but this one
abbrev pub OnlyFrom : FlowGraph → (bound to from : ℕ) → Type 0
OnlyFrom flow bound to from =
    (other : ℕ) (node : FlowNode) → other < bound → IsReachableNode flow other → slice_get flow.nodes other ≡ Some node → HasEdge node to → other ≡ from

-- exactly one edge of a node that can be reached leads there
pub record LeadsOnce (flow : FlowGraph) (to from : ℕ) : Type 0 where
  pub reached : IsReachableNode flow from
  pub node : FlowNode
  pub there : slice_get flow.nodes from ≡ Some node
  pub edge : HasOneEdge node to

-- what leads to a node from nodes with smaller numbers
abbrev pub IsWay : FlowGraph → (bound to : ℕ) → Way → Type 0
IsWay flow bound to Nothing = (to ≢ flow.entry) × NoneLeads flow bound to
IsWay flow bound to (Only from) = (from < bound) × (to ≢ flow.entry) × LeadsOnce flow to from × OnlyFrom flow bound to from
IsWay flow bound to Several = (from : ℕ) → IsOnlyWay flow from to → ⊥

-- a table of what leads to each node
pub record AreWays (flow : FlowGraph) (table : List Way) : Type 0 where
  pub as_many : length table ≡ length flow.nodes
  pub each : (to : ℕ) → to < length flow.nodes → IsWay flow (length flow.nodes) to (slice_index_or table to Nothing)
