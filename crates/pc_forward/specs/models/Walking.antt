-- The walk along all trails: which nodes are left, which are done, and which wait with what is known there.
use Rattle.std.specs.Prelude.{◌≡◌, ◌⊎◌, ℕ, ◌+◌, ◌*◌, ◌<◌, ◌≤◌, Bool, true, false, ◌&&◌, nat_eq, List, [], ◌∷◌, ◌++◌, length, Some, slice_get, slice_index_or}
use Rattle.std.specs.List.{count_by}
use Rattle.pc_word.specs.declared.item.Item.TheVariants.{Copy, Load}
use Rattle.pc_word.specs.declared.item.Operand.{Operand}
use Rattle.pc_flow.specs.declared.node.FlowNode.{FlowNode}
use Rattle.pc_flow.specs.declared.node.FlowNode.TheVariants.{Op, Test, Stop, Trap}
use Rattle.pc_flow.specs.FlowGraph.{FlowGraph, IsFlow, variables}
use Rattle.pc_flow.specs.Reachable.{IsReachableNode}
use Rattle.pc_linear.specs.Form.{Form}
use Rattle.pc_scalar.specs.declared.plan.Plan.{Plan}
use Rattle.pc_scalar.specs.Tally.{AreMany}
use Rattle.pc_forward.specs.declared.trail.Trail.{Trail}
use Rattle.pc_forward.specs.declared.walking.Waiting.{Waiting}
use Rattle.pc_forward.specs.declared.ways.Way.{Way}
use Rattle.pc_forward.specs.declared.ways.Way.TheVariants.{Nothing, Only, Several}
use Rattle.pc_forward.specs.Trail.{operand_form, IsOnlyWay, Along}
use Rattle.pc_forward.specs.Forwardable.{HasElement, IsAtHand, IsForwardable}
use Rattle.pc_forward.specs.Forwarded.{StandsFor}
use Rattle.pc_forward.specs.models.Words.{IsWordOperand, TakesWords}

-- ---- one node

-- an element's value is known, and this stands for it
pub record IsKnownAs (trail : Trail) (array : ℕ) (index from : Operand) : Type 0 where
  pub word : IsWordOperand index
  pub value : Form
  pub element : HasElement trail.accesses array (operand_form trail.forms index) value
  pub stands_for : StandsFor trail.forms value from

-- an element's value is not known, or not at hand
abbrev pub NotKnown : Trail → ℕ → Operand → Type 0
NotKnown trail array index = (value : Form) → HasElement trail.accesses array (operand_form trail.forms index) value → IsAtHand trail.forms value → ⊥

-- what becomes of a node: a load whose value is known and at hand is a copy, and each other node stays
pub data IsForwardedNode (trail : Trail) : (old new : FlowNode) → Type 0 where
  Is_forwarded : {dest array to : ℕ} {index from : Operand} →
      IsKnownAs trail array index from →
      IsForwardedNode trail (Op (Load dest array index) to) (Op (Copy dest from) to)
  Stays : {node : FlowNode} →
      (IsForwardable trail node → ⊥) →
      IsForwardedNode trail node node

-- whether a node is a load, and a copy
abbrev pub is_load : FlowNode → Bool
is_load (Op (Load dest array index) to) = true
is_load node = false

abbrev pub is_copy : FlowNode → Bool
is_copy (Op (Copy dest from) to) = true
is_copy node = false

-- ---- nodes that are done

-- a list of nodes keeps those that are not left
abbrev pub KeepsDone : (left : List Bool) → (nodes final : List FlowNode) → Type 0
KeepsDone left nodes final = (at : ℕ) → slice_get left at ≡ Some false → slice_get final at ≡ slice_get nodes at

-- what is known at a node, whatever becomes of the nodes that are left
abbrev pub KnownAt : (flow : FlowGraph) (left : List Bool) (nodes : List FlowNode) (at : ℕ) (trail : Trail) → Type 0
KnownAt flow left nodes at trail = (final : List FlowNode) → KeepsDone left nodes final → Along flow final at trail

-- a node has become what it is to be
pub record IsDone (flow : FlowGraph) (left : List Bool) (nodes : List FlowNode) (at : ℕ) : Type 0 where
  pub trail : Trail
  pub known : KnownAt flow left nodes at trail
  pub node : FlowNode
  pub was : slice_get flow.nodes at ≡ Some node
  pub made : FlowNode
  pub stands : slice_get nodes at ≡ Some made
  pub words : TakesWords made
  pub is : IsForwardedNode trail node made

-- the run ends at a node
abbrev pub Ends : FlowNode → Type 0
Ends (Op item to) = ⊥
Ends (Test on on_yes on_no turn) = ⊥
Ends Stop = Unit {0}
Ends (Trap kind line) = Unit {0}

pub record IsEnd (flow : FlowGraph) (at : ℕ) : Type 0 where
  pub node : FlowNode
  pub there : slice_get flow.nodes at ≡ Some node
  pub ends : Ends node

-- a node has become what it is to be, by what is known there in the end
pub record IsForwardedAt (flow : FlowGraph) (nodes : List FlowNode) (at : ℕ) : Type 0 where
  pub trail : Trail
  pub known : Along flow nodes at trail
  pub node : FlowNode
  pub was : slice_get flow.nodes at ≡ Some node
  pub made : FlowNode
  pub stands : slice_get nodes at ≡ Some made
  pub words : TakesWords made
  pub is : IsForwardedNode trail node made

-- a node is a copy where a load was
pub record BecameCopy (old new : List FlowNode) (at : ℕ) : Type 0 where
  pub before : FlowNode
  pub after : FlowNode
  pub was : slice_get old at ≡ Some before
  pub stands : slice_get new at ≡ Some after
  pub other : is_load before && is_copy after ≡ true

-- ---- nodes that wait

-- so many nodes are left
abbrev pub how_many : List Bool → ℕ
how_many left = count_by (λ flag. flag) left

-- a node that waits, with what is known there
pub record Waits (flow : FlowGraph) (left : List Bool) (nodes : List FlowNode) (next : Waiting) : Type 0 where
  pub there : next.at < length flow.nodes
  pub known : KnownAt flow left nodes next.at next.trail
  pub room : next.trail.next + how_many left ≤ variables + length flow.nodes
  pub long : length next.trail.forms ≡ variables

-- a node stands in a list of those that wait
pub record IsListed (waiting : List Waiting) (at : ℕ) : Type 0 where
  pub place : ℕ
  pub next : Waiting
  pub there : slice_get waiting place ≡ Some next
  pub is : next.at ≡ at

-- the walk so far
pub record Walked (flow : FlowGraph) (left : List Bool) (nodes : List FlowNode) (waiting : List Waiting) : Type 0 where
  pub is_flow : IsFlow flow
  pub as_many_flags : length left ≡ length flow.nodes
  pub as_many : length nodes ≡ length flow.nodes
  pub each : (at : ℕ) → (slice_get nodes at ≡ slice_get flow.nodes at) ⊎ IsDone flow left nodes at
  pub done : (at : ℕ) → IsReachableNode flow at → slice_get left at ≡ Some false → IsDone flow left nodes at
  pub goes_on : (from at : ℕ) → IsOnlyWay flow from at → slice_get left from ≡ Some false
      → (slice_get left at ≡ Some false) ⊎ IsEnd flow at ⊎ IsListed waiting at
  pub waits : (place : ℕ) (next : Waiting) → slice_get waiting place ≡ Some next → Waits flow left nodes next

-- what is left to do: it falls with each node that is visited
abbrev pub weight : List Bool → List Waiting → ℕ
weight left waiting = 2 * how_many left + length waiting

-- no node that was done is left again
abbrev pub StaysDone : (left new : List Bool) → Type 0
StaysDone left new = (at : ℕ) → slice_get left at ≡ Some false → slice_get new at ≡ Some false

-- whether a node begins a trail, and whether this one is the only way to it
abbrev pub begins : Way → Bool
begins Nothing = false
begins (Only from) = false
begins Several = true

abbrev pub follows : ℕ → Way → Bool
follows from Nothing = false
follows from (Only other) = nat_eq other from
follows from Several = false

-- of the nodes with smaller numbers, those that begin a trail are done
abbrev pub AreBegun : List Way → ℕ → List Bool → Type 0
AreBegun table bound left = (head : ℕ) → head < bound → begins (slice_index_or table head Nothing) ≡ true → slice_get left head ≡ Some false

-- a node waits too, if another one is the only way to it and it is no end
pub data Adds (flow : FlowGraph) (from : ℕ) (trail : Trail) (to : ℕ) (waiting : List Waiting) : (more : List Waiting) → Type 0 where
  Waits_too : IsOnlyWay flow from to → Adds flow from trail to waiting (waiting ++ record { at = to; trail = trail } ∷ [])
  Not_so : (IsOnlyWay flow from to → IsEnd flow to) → Adds flow from trail to waiting waiting

-- so do several, in order
pub data AddsAll (flow : FlowGraph) (from : ℕ) (trail : Trail) : (nodes : List ℕ) → (waiting more : List Waiting) → Type 0 where
  Nothing_added : {waiting : List Waiting} → AddsAll flow from trail [] waiting waiting
  Node_added : {to : ℕ} {nodes : List ℕ} {waiting mid more : List Waiting} →
      Adds flow from trail to waiting mid →
      AddsAll flow from trail nodes mid more →
      AddsAll flow from trail (to ∷ nodes) waiting more

-- ---- the whole

-- the plan by which loads are forwarded
pub record IsForwarding (flow : FlowGraph) (plan : Plan) : Type 0 where
  pub is_flow : IsFlow flow
  pub as_many : length plan.nodes ≡ length flow.nodes
  pub each : (at : ℕ) → (slice_get plan.nodes at ≡ slice_get flow.nodes at) ⊎ IsForwardedAt flow plan.nodes at
  pub done : (at : ℕ) → IsReachableNode flow at → IsForwardedAt flow plan.nodes at ⊎ IsEnd flow at
  pub entry : plan.entry ≡ flow.entry
  pub changed : AreMany (BecameCopy flow.nodes plan.nodes) (length flow.nodes) plan.changed
