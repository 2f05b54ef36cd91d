-- Chains of items: what an item that was done before still stands for at a node.
use Rattle.std.specs.Prelude.{◌≡◌, ◌≢◌, ◌||◌, ℕ, Bool, false, Option, Some, None, slice_get}
use Rattle.std.specs.List.{list_any}
use Rattle.pc_word.specs.declared.item.Item.{Item}
use Rattle.pc_word.specs.Items.{operands_of, dest_of, reads_name}
use Rattle.pc_word.specs.Commit.{writes}
use Rattle.pc_flow.specs.declared.node.FlowNode.{FlowNode}
use Rattle.pc_flow.specs.declared.node.FlowNode.TheVariants.{Op}
use Rattle.pc_flow.specs.FlowGraph.{FlowGraph, HasEdge}
use Rattle.pc_flow.specs.Reachable.{IsReachableNode}

-- an item leads to a node that is not the entry, and no other edge from a node that can be reached leads there
pub record FollowsAlone (flow : FlowGraph) (from at : ℕ) : Type 0 where
  pub reached : IsReachableNode flow from
  pub item : Item
  pub there : slice_get flow.nodes from ≡ Some (Op item at)
  pub not_entry : at ≢ flow.entry
  pub only : (other : ℕ) (node : FlowNode) → IsReachableNode flow other → slice_get flow.nodes other ≡ Some node → HasEdge node at → other ≡ from

-- whether an item writes or reads a name
abbrev pub touches : Item → ℕ → Bool
touches item name = writes (dest_of item) name || list_any (λ operand. reads_name operand name) (operands_of item)

-- whether what is written is touched by an item
abbrev pub touched_by : Item → Option ℕ → Bool
touched_by item None = false
touched_by item (Some name) = touches item name

-- An item stands at a node: it was done on the chain of items that leads there, and nothing done since then has written its
-- destination or one of its operands.
pub data Stands (flow : FlowGraph) (item : Item) : (at : ℕ) → Type 0 where
  Just_done : {from at : ℕ} →
      slice_get flow.nodes from ≡ Some (Op item at) →
      FollowsAlone flow from at →
      Stands flow item at
  Still : {from at : ℕ} {other : Item} →
      Stands flow item from →
      slice_get flow.nodes from ≡ Some (Op other at) →
      FollowsAlone flow from at →
      touched_by item (dest_of other) ≡ false →
      Stands flow item at
