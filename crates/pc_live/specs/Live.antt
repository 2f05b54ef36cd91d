-- When a variable is live at a node of a flow graph.
use Rattle.std.specs.Prelude.{◌≡◌, ℕ, Bool, true, false, Some, slice_get}
use Rattle.std.specs.List.{list_any}
use Rattle.pc_word.specs.Items.{operands_of, dest_of, reads_name}
use Rattle.pc_word.specs.Commit.{writes}
use Rattle.pc_flow.specs.declared.node.FlowNode.{FlowNode}
use Rattle.pc_flow.specs.declared.node.FlowNode.TheVariants.{Op, Test, Stop, Trap}
use Rattle.pc_flow.specs.FlowGraph.{FlowGraph, HasEdge}

-- whether a node reads a variable: an operand of its item is the variable, or what it tests is
abbrev pub node_reads : FlowNode → ℕ → Bool
node_reads (Op item to) variable = list_any (λ operand. reads_name operand variable) (operands_of item)
node_reads (Test on on_yes on_no turn) variable = reads_name on variable
node_reads Stop variable = false
node_reads (Trap kind line) variable = false

-- whether a node writes a variable: its item does
abbrev pub node_writes : FlowNode → ℕ → Bool
node_writes (Op item to) variable = writes (dest_of item) variable
node_writes (Test on on_yes on_no turn) variable = false
node_writes Stop variable = false
node_writes (Trap kind line) variable = false

-- A variable is live at a node: some path from there reads it before it writes it. Either the node itself reads it, and a node
-- that also writes it reads it first; or the node does not write it, and it is live at a node to which an edge leads.
pub data IsLive (flow : FlowGraph) (variable : ℕ) : (at : ℕ) → Type 0 where
  Read_here : {at : ℕ} {node : FlowNode} →
      slice_get flow.nodes at ≡ Some node →
      node_reads node variable ≡ true →
      IsLive flow variable at
  Read_later : {at next : ℕ} {node : FlowNode} →
      slice_get flow.nodes at ≡ Some node →
      node_writes node variable ≡ false →
      HasEdge node next →
      IsLive flow variable next →
      IsLive flow variable at
