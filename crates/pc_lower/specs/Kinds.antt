-- The kinds of the nodes that a flow graph passes.
use Rattle.std.specs.Prelude.{ℕ, zero, suc, List, [], ◌∷◌, Option, Some, None, slice_get}
use Rattle.pc_word.specs.declared.item.Item.{Item}
use Rattle.pc_word.specs.declared.item.Item.TheVariants.{Bin, Copy, Load, Store, Print, Read, More}
use Rattle.pc_word.specs.Run.{Step, Goes, Stops}
use Rattle.pc_flow.specs.declared.node.FlowNode.{FlowNode}
use Rattle.pc_flow.specs.declared.node.FlowNode.TheVariants.{Op, Test, Stop, Trap}
use Rattle.pc_flow.specs.FlowRun.{FlowState, node_step}
use Rattle.pc_meaning.specs.Trace.{Kind, Binary_node, Copy_node, Load_node, Store_node, Print_node, Read_node, More_node, Test_node}

-- the kind of an item
abbrev pub kind_of_item : Item → Kind
kind_of_item (Bin op dest left right) = Binary_node op
kind_of_item (Copy dest from) = Copy_node
kind_of_item (Load dest array index) = Load_node
kind_of_item (Store array index value) = Store_node
kind_of_item (Print value) = Print_node
kind_of_item (Read dest) = Read_node
kind_of_item (More dest) = More_node

-- the kind of a node; the end and a trap have none
abbrev pub kind_of_node : Option FlowNode → Option Kind
kind_of_node (Some (Op item following)) = Some (kind_of_item item)
kind_of_node (Some (Test on on_yes on_no turn)) = Some Test_node
kind_of_node (Some Stop) = None
kind_of_node (Some (Trap kind line)) = None
kind_of_node None = None

-- a kind before those of what a step leads to
abbrev pub kind_before : Option Kind → Step FlowState → (FlowState → List Kind) → List Kind
kind_before (Some kind) (Goes out next) rest = kind ∷ rest next
kind_before (Some kind) (Stops out end) rest = kind ∷ []
kind_before None next rest = []

-- the kinds of the first n nodes that are passed from a state, the end and traps left out
abbrev pub kinds_from : List FlowNode → List ℕ → ℕ → FlowState → List Kind
kinds_from nodes lengths zero here = []
kinds_from nodes lengths (suc n) here =
    kind_before (kind_of_node (slice_get nodes here.node)) (node_step nodes lengths here) (kinds_from nodes lengths n)
