-- What the removal of dead writes leaves.
use Rattle.std.specs.Prelude.{◌≡◌, ℕ, Option, Some, None, slice_get}
use Rattle.pc_word.specs.declared.item.Item.{Item}
use Rattle.pc_word.specs.declared.item.Item.TheVariants.{Bin, Copy, Load, Store, Print, Read, More}
use Rattle.pc_flow.specs.declared.node.FlowNode.TheVariants.{Op}
use Rattle.pc_flow.specs.FlowGraph.{FlowGraph}
use Rattle.pc_live.specs.Live.{IsLive}
use Rattle.pc_flow.specs.Reachable.{IsReachableNode}

-- the variable that an item writes, if that is all it does
abbrev pub only_writes : Item → Option ℕ
only_writes (Bin op dest left right) = Some dest
only_writes (Copy dest from) = Some dest
only_writes (Load dest array index) = Some dest
only_writes (Store array index value) = None
only_writes (Print value) = None
only_writes (Read dest) = None
only_writes (More dest) = Some dest

-- each item that can be reached and only writes a variable writes one that is live after it
pub record WritesAreLive (flow : FlowGraph) : Type 0 where
  pub live : (at to dest : ℕ) (item : Item) → IsReachableNode flow at → slice_get flow.nodes at ≡ Some (Op item to) → only_writes item ≡ Some dest
      → IsLive flow dest to
