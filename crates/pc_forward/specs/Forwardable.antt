-- Loads of elements whose values are known: they were stored or loaded before, and some variable or constant still has them.
use Rattle.std.specs.Prelude.{◌≡◌, ◌⊎◌, ℕ, ◌<◌, List, [], Some, slice_get}
use Rattle.pc_word.specs.declared.item.Item.TheVariants.{Load}
use Rattle.pc_word.specs.declared.item.Operand.{Operand}
use Rattle.pc_flow.specs.declared.node.FlowNode.{FlowNode}
use Rattle.pc_flow.specs.declared.node.FlowNode.TheVariants.{Op}
use Rattle.pc_flow.specs.FlowGraph.{FlowGraph}
use Rattle.pc_flow.specs.Reachable.{IsReachableNode}
use Rattle.pc_linear.specs.Form.{Form}
use Rattle.pc_linear.specs.Equality.{NeverEqual, AlwaysEqual}
use Rattle.pc_forward.specs.declared.access.Access.{Access}
use Rattle.pc_forward.specs.declared.access.AccessKind.{AccessKind}
use Rattle.pc_forward.specs.declared.access.AccessKind.TheVariants as kind
use Rattle.pc_forward.specs.declared.trail.Trail.{Trail}
use Rattle.pc_forward.specs.Trail.{operand_form, Along}

-- ---- elements

-- a load with an always equal index, or a store whose index is not never equal
abbrev pub Meets : AccessKind → (its index : Form) → Type 0
Meets kind.Load its index = AlwaysEqual its index
Meets kind.Store its index = NeverEqual its index → ⊥

-- an access of an array decides what is known of the element at an index
pub record Decides (array : ℕ) (index : Form) (access : Access) : Type 0 where
  pub same_array : access.array ≡ array
  pub meets : Meets access.kind access.index index

-- going back, the first access that decides
pub record IsLatest (accesses : List Access) (array : ℕ) (index : Form) (access : Access) : Type 0 where
  pub place : ℕ
  pub there : slice_get accesses place ≡ Some access
  pub decides : Decides array index access
  pub none_later : (later : ℕ) (other : Access) → place < later → slice_get accesses later ≡ Some other → Decides array index other → ⊥

-- the element at an index has a value: the access that decides is of just this index, and loaded or stored that value
pub record HasElement (accesses : List Access) (array : ℕ) (index value : Form) : Type 0 where
  pub access : Access
  pub latest : IsLatest accesses array index access
  pub same_index : AlwaysEqual access.index index
  pub is : access.value ≡ value

-- ---- values

-- a variable has always this value
pub record IsHolder (forms : List Form) (value : Form) (x : ℕ) : Type 0 where
  pub form : Form
  pub there : slice_get forms x ≡ Some form
  pub same : AlwaysEqual form value

-- a value is a constant, or some variable has it
abbrev pub IsAtHand : List Form → Form → Type 0
IsAtHand forms value = (value.terms ≡ []) ⊎ ((x : ℕ) × IsHolder forms value x)

-- ---- loads

-- a node is a load of an element whose value is known and at hand
pub record IsForwardable (trail : Trail) (node : FlowNode) : Type 0 where
  pub dest : ℕ
  pub array : ℕ
  pub index : Operand
  pub to : ℕ
  pub is : node ≡ Op (Load dest array index) to
  pub value : Form
  pub element : HasElement trail.accesses array (operand_form trail.forms index) value
  pub at_hand : IsAtHand trail.forms value

-- no load that can be reached is forwardable, by the trail that leads to it
pub record ForwardsAll (flow : FlowGraph) : Type 0 where
  pub trails : (at dest array to : ℕ) (index : Operand) → IsReachableNode flow at → slice_get flow.nodes at ≡ Some (Op (Load dest array index) to)
      → (trail : Trail) × Along flow flow.nodes at trail
  pub none : (at : ℕ) (node : FlowNode) (trail : Trail) → IsReachableNode flow at → slice_get flow.nodes at ≡ Some node → Along flow flow.nodes at trail
      → IsForwardable trail node → ⊥
