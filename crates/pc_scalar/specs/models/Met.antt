-- A walk over the nodes that can be reached: flags of those that were met, and the list of them.
use Rattle.std.specs.Prelude.{◌≡◌, ℕ, Bool, true, false, List, [], ◌∷◌, ◌++◌, length, Some, slice_get, slice_set}
use Rattle.pc_flow.specs.declared.node.FlowNode.{FlowNode}
use Rattle.pc_flow.specs.declared.node.FlowNode.TheVariants.{Op, Test, Stop, Trap}
use Rattle.pc_flow.specs.FlowGraph.{FlowGraph, IsFlow}
use Rattle.pc_flow.specs.Reachable.{IsReachableNode}

-- the nodes to which the edges of a node lead
abbrev pub edges_of : FlowNode → List ℕ
edges_of (Op item to) = to ∷ []
edges_of (Test on on_yes on_no turn) = on_yes ∷ on_no ∷ []
edges_of Stop = []
edges_of (Trap kind line) = []

-- a node is met: it was flagged before, or it is flagged now and appended to the list
pub data Meets (flags new : List Bool) (met later : List ℕ) (node : ℕ) : Type 0 where
  Known : slice_get flags node ≡ Some true → new ≡ flags → later ≡ met → Meets flags new met later node
  First : slice_get flags node ≡ Some false → new ≡ slice_set flags node true → later ≡ met ++ node ∷ [] → Meets flags new met later node

-- so are several, in order
pub data MeetsAll : (nodes : List ℕ) → (flags new : List Bool) → (met later : List ℕ) → Type 0 where
  Nothing_met : {flags : List Bool} {met : List ℕ} → MeetsAll [] flags flags met met
  Node_met : {node : ℕ} {nodes : List ℕ} {flags mid new : List Bool} {met more later : List ℕ} →
      Meets flags mid met more node →
      MeetsAll nodes mid new more later →
      MeetsAll (node ∷ nodes) flags new met later

-- the flags of exactly the nodes that can be reached
pub record AreReached (flow : FlowGraph) (flags : List Bool) : Type 0 where
  pub is_flow : IsFlow flow
  pub as_many : length flags ≡ length flow.nodes
  pub only : (at : ℕ) → slice_get flags at ≡ Some true → IsReachableNode flow at
  pub all : (at : ℕ) → IsReachableNode flow at → slice_get flags at ≡ Some true
