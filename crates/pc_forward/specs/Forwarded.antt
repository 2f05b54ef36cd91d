-- What forwarding does to a graph.
use Rattle.std.specs.Prelude.{◌≡◌, ◌⊎◌, ℕ, ◌<◌, List, [], Some, slice_get}
use Rattle.pc_word.specs.declared.item.Item.TheVariants.{Copy, Load}
use Rattle.pc_word.specs.declared.item.Operand.{Operand}
use Rattle.pc_word.specs.declared.item.Operand.TheVariants.{Name, Lit}
use Rattle.pc_flow.specs.declared.node.FlowNode.TheVariants.{Op}
use Rattle.pc_flow.specs.FlowGraph.{FlowGraph}
use Rattle.pc_linear.specs.Form.{Form}
use Rattle.pc_scalar.specs.Leaves.{Leaves}
use Rattle.pc_forward.specs.declared.trail.Trail.{Trail}
use Rattle.pc_forward.specs.Trail.{operand_form, Along}
use Rattle.pc_forward.specs.Forwardable.{HasElement, IsHolder, ForwardsAll}

-- the least variable that has a value
pub record IsLeast (forms : List Form) (value : Form) (x : ℕ) : Type 0 where
  pub holds : IsHolder forms value x
  pub least : (other : ℕ) → other < x → IsHolder forms value other → ⊥

-- what stands for a value: the constant that it is, and else the least variable that has it
pub data StandsFor (forms : List Form) (value : Form) : Operand → Type 0 where
  Is_constant : value.terms ≡ [] → StandsFor forms value (Lit value.constant)
  Is_least : {x : ℕ} →
      (value.terms ≡ [] → ⊥) →
      IsLeast forms value x →
      StandsFor forms value (Name x)

-- a load became a copy of what stands for its element's value, as the trail in the new graph tells
pub record IsForwardedLoad (old new : FlowGraph) (at : ℕ) : Type 0 where
  pub dest : ℕ
  pub array : ℕ
  pub index : Operand
  pub to : ℕ
  pub was : slice_get old.nodes at ≡ Some (Op (Load dest array index) to)
  pub trail : Trail
  pub along : Along new new.nodes at trail
  pub value : Form
  pub element : HasElement trail.accesses array (operand_form trail.forms index) value
  pub from : Operand
  pub stands_for : StandsFor trail.forms value from
  pub is : slice_get new.nodes at ≡ Some (Op (Copy dest from) to)

-- each node is as it was, or is a load that was forwarded
pub record ForwardsEach (old new : FlowGraph) : Type 0 where
  pub same_entry : new.entry ≡ old.entry
  pub each : (at : ℕ) → (slice_get new.nodes at ≡ slice_get old.nodes at) ⊎ IsForwardedLoad old new at

-- The pass: no load that can be reached is forwardable, each node is as it was or was forwarded, and the count of changes rose by the
-- number of those that were.
pub record Forwards (old new : FlowGraph) (before now : ℕ) : Type 0 where
  pub leaves : Leaves ForwardsAll old new before now
  pub each : ForwardsEach old new
