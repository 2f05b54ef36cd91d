-- Which variables are needed at a node, where what is read by items that are removed is not.
use Rattle.std.specs.Prelude.{◌≡◌, ◌<◌, ℕ, Bool, true, false, not, if◌then◌else◌, List, length, map, Option, Some, None, slice_get, slice_index}
use Rattle.pc_word.specs.declared.item.Item.{Item}
use Rattle.pc_flow.specs.declared.node.FlowNode.{FlowNode}
use Rattle.pc_flow.specs.declared.node.FlowNode.TheVariants.{Op, Test, Stop, Trap}
use Rattle.pc_flow.specs.FlowGraph.{FlowGraph, IsFlow, HasEdge, variables}
use Rattle.pc_live.specs.declared.variable_set.VariableSet.{VariableSet}
use Rattle.pc_live.specs.Live.{node_reads, node_writes}
use Rattle.pc_live.specs.Liveness.{member, set_at}
use Rattle.pc_live.specs.Backward.{IsClosed}
use Rattle.pc_scalar.specs.declared.plan.Plan.{Plan}
use Rattle.pc_scalar.specs.Cleared.{only_writes}
use Rattle.pc_scalar.specs.Tally.{AreMany}
use Rattle.pc_scalar.specs.models.Counted.{IsReachedAnd}
use Rattle.pc_scalar.specs.models.Ends.{AreEnds, led}

-- the same of a node
abbrev pub node_only_writes : FlowNode → Option ℕ
node_only_writes (Op item to) = only_writes item
node_only_writes (Test on on_yes on_no turn) = None
node_only_writes Stop = None
node_only_writes (Trap kind line) = None

-- A variable is needed at a node: some path from there reads it before it writes it, at a node that does more than write a
-- variable or writes one that is needed itself.
pub data IsNeeded (flow : FlowGraph) : (variable at : ℕ) → Type 0 where
  Read_always : {variable at : ℕ} {node : FlowNode} →
      slice_get flow.nodes at ≡ Some node →
      node_only_writes node ≡ None →
      node_reads node variable ≡ true →
      IsNeeded flow variable at
  Read_for : {variable at to dest : ℕ} {item : Item} →
      slice_get flow.nodes at ≡ Some (Op item to) →
      only_writes item ≡ Some dest →
      IsNeeded flow dest to →
      node_reads (Op item to) variable ≡ true →
      IsNeeded flow variable at
  Read_behind : {variable at next : ℕ} {node : FlowNode} →
      slice_get flow.nodes at ≡ Some node →
      node_writes node variable ≡ false →
      HasEdge node next →
      IsNeeded flow variable next →
      IsNeeded flow variable at

-- ---- as far as sets tell

-- whether a variable is written for nothing
abbrev pub is_unwanted : VariableSet → Option ℕ → Bool
is_unwanted set (Some dest) = not (member set dest)
is_unwanted set None = false

-- whether an item does nothing but write a variable that is not in the set after it
abbrev pub is_needless : VariableSet → Item → Bool
is_needless set item = is_unwanted set (only_writes item)

abbrev pub node_needless : List VariableSet → FlowNode → Bool
node_needless sets (Op item to) = is_needless (set_at sets to) item
node_needless sets (Test on on_yes on_no turn) = false
node_needless sets Stop = false
node_needless sets (Trap kind line) = false

-- what an item reads counts unless the item is needless
abbrev pub kept_reads : VariableSet → Item → Bool
kept_reads after item = not (is_needless after item)

-- sets with exactly the variables that are needed at each node: each variable in them is, and they lack nothing
pub record AreNeeded (flow : FlowGraph) (sets : List VariableSet) : Type 0 where
  pub is_flow : IsFlow flow
  pub as_many : length sets ≡ length flow.nodes
  pub needed : (at variable : ℕ) → variable < variables → member (set_at sets at) variable ≡ true → IsNeeded flow variable at
  pub closed : IsClosed kept_reads flow sets

-- ---- what is skipped

-- the node that takes a node's place: the one after an item that is needless, and else the node itself
abbrev pub cleared : List VariableSet → ℕ → FlowNode → ℕ
cleared sets at (Op item to) = if is_needless (set_at sets to) item then to else at
cleared sets at (Test on on_yes on_no turn) = at
cleared sets at Stop = at
cleared sets at (Trap kind line) = at

-- a table of them
pub record AreCleared (flow : FlowGraph) (sets : List VariableSet) (table : List ℕ) : Type 0 where
  pub as_many : length table ≡ length flow.nodes
  pub each : (at : ℕ) (node : FlowNode) → slice_get flow.nodes at ≡ Some node → slice_index table at ≡ cleared sets at node

-- the plan by which a graph is cleared: edges lead to the ends of the chains of needless items
pub record IsClearing (flow : FlowGraph) (plan : Plan) : Type 0 where
  pub sets : List VariableSet
  pub table : List ℕ
  pub ends : List ℕ
  pub are_needed : AreNeeded flow sets
  pub are_cleared : AreCleared flow sets table
  pub are_ends : AreEnds table ends
  pub nodes : plan.nodes ≡ map (λ node. led ends node) flow.nodes
  pub entry : plan.entry ≡ slice_index ends flow.entry
  pub changed : AreMany (IsReachedAnd (λ at. node_needless sets) flow) (length flow.nodes) plan.changed
