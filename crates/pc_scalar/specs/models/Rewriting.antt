-- Nodes that are rewritten along chains.
use Rattle.std.specs.Prelude.{◌≡◌, ◌⊎◌, ◌<◌, ℕ, Bool, true, false, nat_eq, List, length, Option, Some, slice_get, slice_index_or}
use Rattle.pc_word.specs.declared.item.Item.{Item}
use Rattle.pc_flow.specs.declared.node.FlowNode.{FlowNode}
use Rattle.pc_flow.specs.FlowGraph.{FlowGraph, IsFlow}
use Rattle.pc_flow.specs.Reachable.{IsReachableNode}
use Rattle.pc_scalar.specs.declared.before.Predecessor.{Predecessor}
use Rattle.pc_scalar.specs.declared.before.Predecessor.TheVariants.{Nothing, Only, Several}
use Rattle.pc_scalar.specs.declared.plan.Plan.{Plan}
use Rattle.pc_scalar.specs.declared.rule.Rule.{Rule}
use Rattle.pc_scalar.specs.Chain.{FollowsAlone}
use Rattle.pc_scalar.specs.Tally.{AreMany}
use Rattle.pc_scalar.specs.models.Counted.{Differ}
use Rattle.pc_scalar.specs.models.Known.{KnownAt, rewritten}

-- whether a node is led to by the item of this node alone
abbrev pub follows : ℕ → Predecessor → Bool
follows from Nothing = false
follows from (Only other) = nat_eq other from
follows from Several = false

-- whether it begins a chain
abbrev pub begins : Predecessor → Bool
begins Nothing = false
begins (Only other) = false
begins Several = true

-- a chain leads from one node to another
pub data ChainFrom (flow : FlowGraph) : (from to : ℕ) → Type 0 where
  Begins : {at : ℕ} → ChainFrom flow at at
  Goes_on : {from next to : ℕ} → FollowsAlone flow from next → ChainFrom flow next to → ChainFrom flow from to

-- a node that is rewritten by what is known there
pub record Written (flow : FlowGraph) (rule : Rule) (nodes : List FlowNode) (at : ℕ) : Type 0 where
  pub known : List (Option Item)
  pub known_at : KnownAt flow rule at known
  pub node : FlowNode
  pub there : slice_get flow.nodes at ≡ Some node
  pub stands : slice_get nodes at ≡ Some (rewritten rule known node)

-- so is each node of the chains that begin somewhere
abbrev pub AreWritten : FlowGraph → List Predecessor → Rule → List FlowNode → Type 0
AreWritten flow table rule nodes =
    (head : ℕ) → head < length flow.nodes → begins (slice_index_or table head Nothing) ≡ true → (at : ℕ) → ChainFrom flow head at → Written flow rule nodes at

-- nodes of which each is as it was, or rewritten
pub record Rewrites (flow : FlowGraph) (rule : Rule) (nodes : List FlowNode) : Type 0 where
  pub as_many : length nodes ≡ length flow.nodes
  pub each : (at : ℕ) (node : FlowNode) → slice_get flow.nodes at ≡ Some node → (slice_get nodes at ≡ Some node) ⊎ Written flow rule nodes at

-- a plan by which each node that can be reached is rewritten
pub record IsRewriting (flow : FlowGraph) (rule : Rule) (plan : Plan) : Type 0 where
  pub is_flow : IsFlow flow
  pub rewrites : Rewrites flow rule plan.nodes
  pub written : (at : ℕ) → IsReachableNode flow at → Written flow rule plan.nodes at
  pub entry : plan.entry ≡ flow.entry
  pub changed : AreMany (Differ flow.nodes plan.nodes) (length flow.nodes) plan.changed
