-- Where edges lead to once nodes are skipped: a table of the node that takes a node's place, and the ends of its chains.
use Rattle.std.specs.Prelude.{◌≡◌, ◌≢◌, ℕ, ◌<◌, List, length, slice_index}
use Rattle.pc_flow.specs.declared.node.FlowNode.{FlowNode}
use Rattle.pc_flow.specs.declared.node.FlowNode.TheVariants.{Op, Test, Stop, Trap}
use Rattle.pc_flow.specs.FlowGraph.{FlowGraph}
use Rattle.pc_pass.specs.models.Change.{Way}

-- the table puts another node in the place of this one
pub record Jump (table : List ℕ) (at next : ℕ) : Type 0 where
  pub leads : slice_index table at ≡ next
  pub other : next ≢ at

-- each node that the table names is there, and has a smaller rank than the one whose place it takes
pub record FallsAlong (flow : FlowGraph) (table : List ℕ) : Type 0 where
  pub as_many : length table ≡ length flow.nodes
  pub there : (at : ℕ) → at < length table → slice_index table at < length table
  pub falls : (at : ℕ) → at < length table → slice_index table at ≢ at → slice_index flow.ranks (slice_index table at) < slice_index flow.ranks at

-- a table in which chains of another one are shortened, and end where they ended
pub record IsShortened (first table : List ℕ) : Type 0 where
  pub as_many : length table ≡ length first
  pub leads : (at : ℕ) → at < length first → Way (Jump first) at (slice_index table at)
  pub ends : (at : ℕ) → at < length first → slice_index table at ≡ at → slice_index first at ≡ at

-- the chain from the first node ends at the second, whose place no other takes
pub record EndsAt (table : List ℕ) (from to : ℕ) : Type 0 where
  pub leads : Way (Jump table) from to
  pub stays : slice_index table to ≡ to

-- the end of each node's chain
pub record AreEnds (table ends : List ℕ) : Type 0 where
  pub as_many : length ends ≡ length table
  pub each : (at : ℕ) → at < length table → EndsAt table at (slice_index ends at)

-- a node whose edges lead to the ends
abbrev pub led : List ℕ → FlowNode → FlowNode
led ends (Op item to) = Op item (slice_index ends to)
led ends (Test on on_yes on_no turn) = Test on (slice_index ends on_yes) (slice_index ends on_no) turn
led ends Stop = Stop
led ends (Trap kind line) = Trap kind line

-- the edges of a node lead to one of so many nodes
abbrev pub NodeThere : ℕ → FlowNode → Type 0
NodeThere count (Op item to) = to < count
NodeThere count (Test on on_yes on_no turn) = (on_yes < count) × (on_no < count)
NodeThere count Stop = Unit {0}
NodeThere count (Trap kind line) = Unit {0}
