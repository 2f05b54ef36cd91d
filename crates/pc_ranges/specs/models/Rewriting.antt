-- Nodes that are rewritten by what is known there, as the code does it.
use Rattle.std.specs.Prelude.{◌≡◌, ℕ, Bool, false, ◌||◌, if◌then◌else◌, List, length, Option, Some, None, slice_get, slice_index}
use Rattle.std.specs.List.{list_any}
use Rattle.pc_word.specs.declared.item.Item.{Item}
use Rattle.pc_word.specs.declared.item.Item.TheVariants.{Bin, Copy}
use Rattle.pc_word.specs.declared.item.Operand.{Operand}
use Rattle.pc_word.specs.declared.item.Operand.TheVariants.{Name, Lit}
use Rattle.pc_word.specs.Items.{operands_of}
use Rattle.pc_word.specs.Naming.{map_operands}
use Rattle.pc_flow.specs.declared.node.FlowNode.{FlowNode}
use Rattle.pc_flow.specs.declared.node.FlowNode.TheVariants.{Op, Test, Stop, Trap}
use Rattle.pc_flow.specs.FlowGraph.{FlowGraph, IsFlow}
use Rattle.pc_scalar.specs.Tally.{AreMany}
use Rattle.pc_scalar.specs.declared.plan.Plan.{Plan}
use Rattle.pc_scalar.specs.models.Counted.{IsReachedAnd}
use Rattle.pc_scalar.specs.models.Ends.{AreEnds, led}
use Rattle.pc_ranges.specs.declared.interval.Interval.{Interval}
use Rattle.pc_ranges.specs.declared.bounds.Bounds.{Bounds}
use Rattle.pc_ranges.specs.Interval.{is_single, is_zero, lacks_zero, operand_interval}
use Rattle.pc_ranges.specs.Bounds.{bounds_at, IsKept}
use Rattle.pc_ranges.specs.Over.{over}

-- ---- operands

-- whether an operand is a variable of a single word
abbrev pub is_settled : List Interval → Operand → Bool
is_settled intervals (Name variable) = is_single (operand_interval intervals (Name variable))
is_settled intervals (Lit word) = false

-- the literal for such a variable
abbrev pub settled : List Interval → Operand → Operand
settled intervals operand = if is_settled intervals operand then Lit (operand_interval intervals operand).low else operand

-- ---- items

-- a copy of the only word that the operator can give, or the item with literals for variables of a single word
abbrev pub settled_item : List Interval → Item → Item
settled_item intervals (Bin op dest left right) =
    if is_single (over op (operand_interval intervals left) (operand_interval intervals right))
    then Copy dest (Lit (over op (operand_interval intervals left) (operand_interval intervals right)).low)
    else Bin op dest (settled intervals left) (settled intervals right)
settled_item intervals item = map_operands (settled intervals) item

-- whether that is another item
abbrev pub item_changes : List Interval → Item → Bool
item_changes intervals (Bin op dest left right) =
    is_single (over op (operand_interval intervals left) (operand_interval intervals right)) || (is_settled intervals left || is_settled intervals right)
item_changes intervals item = list_any (λ operand. is_settled intervals operand) (operands_of item)

-- ---- nodes

abbrev pub settled_node : List Bounds → ℕ → FlowNode → FlowNode
settled_node map at (Op item to) = Op (settled_item (bounds_at map at).intervals item) to
settled_node map at (Test on on_yes on_no turn) = Test (settled (bounds_at map at).intervals on) on_yes on_no turn
settled_node map at Stop = Stop
settled_node map at (Trap kind line) = Trap kind line

-- the side that is taken of a test whose operand has this interval, or the test itself
abbrev pub taken_side : Interval → (at on_yes on_no : ℕ) → ℕ
taken_side interval at on_yes on_no = if lacks_zero interval then on_yes else (if is_zero interval then on_no else at)

-- the node that takes a node's place: such a side, if the test is no loop's, and else the node itself
abbrev pub taken : List Bounds → ℕ → FlowNode → ℕ
taken map at (Test on on_yes on_no None) = taken_side (operand_interval (bounds_at map at).intervals on) at on_yes on_no
taken map at node = at

-- whether a node is changed or skipped
abbrev pub is_decided : Option ℕ → Interval → Bool
is_decided None interval = lacks_zero interval || is_zero interval
is_decided (Some turn) interval = false

abbrev pub node_changes : List Bounds → ℕ → FlowNode → Bool
node_changes map at (Op item to) = item_changes (bounds_at map at).intervals item
node_changes map at (Test on on_yes on_no turn) =
    is_settled (bounds_at map at).intervals on || is_decided turn (operand_interval (bounds_at map at).intervals on)
node_changes map at node = false

-- ---- the plan

-- a table of the nodes that take others' places
pub record AreTaken (flow : FlowGraph) (map : List Bounds) (table : List ℕ) : Type 0 where
  pub is_flow : IsFlow flow
  pub as_many : length table ≡ length flow.nodes
  pub each : (at : ℕ) (node : FlowNode) → slice_get flow.nodes at ≡ Some node → slice_index table at ≡ taken map at node

-- the nodes of a graph, rewritten, with edges to the ends
pub record IsRangedNodes (flow : FlowGraph) (map : List Bounds) (ends : List ℕ) (nodes : List FlowNode) : Type 0 where
  pub as_many : length nodes ≡ length flow.nodes
  pub each : (at : ℕ) (node : FlowNode) → slice_get flow.nodes at ≡ Some node → slice_get nodes at ≡ Some (led ends (settled_node map at node))

-- the plan by which a graph is rewritten
pub record IsRanging (flow : FlowGraph) (map : List Bounds) (plan : Plan) : Type 0 where
  pub table : List ℕ
  pub ends : List ℕ
  pub kept : IsKept flow map
  pub taken_sides : AreTaken flow map table
  pub are_ends : AreEnds table ends
  pub nodes : IsRangedNodes flow map ends plan.nodes
  pub entry : plan.entry ≡ slice_index ends flow.entry
  pub changed : AreMany (IsReachedAnd (λ at node. node_changes map at node) flow) (length flow.nodes) plan.changed
