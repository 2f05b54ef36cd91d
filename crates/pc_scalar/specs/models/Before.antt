-- What leads to each node, as far as the edges of some nodes were noted.
use Rattle.std.specs.Prelude.{◌≡◌, ◌≢◌, ℕ, ◌<◌, List, length, Some, slice_get, slice_set, slice_index_or}
use Rattle.pc_word.specs.declared.item.Item.{Item}
use Rattle.pc_flow.specs.declared.node.FlowNode.{FlowNode}
use Rattle.pc_flow.specs.declared.node.FlowNode.TheVariants.{Op, Test, Stop, Trap}
use Rattle.pc_flow.specs.FlowGraph.{FlowGraph, HasEdge}
use Rattle.pc_flow.specs.Reachable.{IsReachableNode}
use Rattle.pc_scalar.specs.declared.before.Predecessor.{Predecessor}
use Rattle.pc_scalar.specs.declared.before.Predecessor.TheVariants.{Nothing, Only, Several}
use Rattle.pc_scalar.specs.Chain.{FollowsAlone}

-- with the edge of an item more
abbrev pub with_edge : ℕ → Predecessor → Predecessor
with_edge from Nothing = Only from
with_edge from (Only other) = Several
with_edge from Several = Several

-- with the edges of a node
abbrev pub noted : FlowNode → ℕ → List Predecessor → List Predecessor
noted (Op item to) at table = slice_set table to (with_edge at (slice_index_or table to Nothing))
noted (Test on on_yes on_no turn) at table = slice_set (slice_set table on_yes Several) on_no Several
noted Stop at table = table
noted (Trap kind line) at table = table

-- no node with a smaller number, of those that can be reached, leads to a node but this one
abbrev pub OnlyFrom : FlowGraph → (bound to from : ℕ) → Type 0
OnlyFrom flow bound to from =
    (other : ℕ) (node : FlowNode) → other < bound → IsReachableNode flow other → slice_get flow.nodes other ≡ Some node → HasEdge node to → other ≡ from

-- the item of a node that can be reached leads there
pub record LeadsAlone (flow : FlowGraph) (to from : ℕ) : Type 0 where
  pub reached : IsReachableNode flow from
  pub item : Item
  pub there : slice_get flow.nodes from ≡ Some (Op item to)

-- what leads to a node from nodes with smaller numbers
abbrev pub IsBefore : FlowGraph → (bound to : ℕ) → Predecessor → Type 0
IsBefore flow bound to Nothing =
    (to ≢ flow.entry)
    × ((other : ℕ) (node : FlowNode) → other < bound → IsReachableNode flow other → slice_get flow.nodes other ≡ Some node → HasEdge node to → ⊥)
IsBefore flow bound to (Only from) = (from < bound) × (to ≢ flow.entry) × LeadsAlone flow to from × OnlyFrom flow bound to from
IsBefore flow bound to Several = (from : ℕ) → FollowsAlone flow from to → ⊥

-- a table of what leads to each node
pub record AreBefore (flow : FlowGraph) (table : List Predecessor) : Type 0 where
  pub as_many : length table ≡ length flow.nodes
  pub each : (to : ℕ) → to < length flow.nodes → IsBefore flow (length flow.nodes) to (slice_index_or table to Nothing)
