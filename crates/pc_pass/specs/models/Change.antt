-- A graph that is made of another one node by node. No public clause cites this; it is how passes are proved to keep what a
-- graph shows.
use Rattle.std.specs.Prelude.{◌≡◌, ℕ, ◌<◌, ℤ, Bool, true, false, List, [], All, Option, Some, slice_get, slice_index}
use Rattle.std.specs.List.{list_any}
use Rattle.pc_word.specs.declared.item.Item.{Item}
use Rattle.pc_word.specs.declared.item.Operand.{Operand}
use Rattle.pc_word.specs.declared.item.TrapKind.{TrapKind}
use Rattle.pc_word.specs.Word.{IsWord, holds}
use Rattle.pc_word.specs.Run.{Goes}
use Rattle.pc_word.specs.State.{State, start_state}
use Rattle.pc_word.specs.Items.{operand_value, operands_of, dest_of, reads_name}
use Rattle.pc_word.specs.Commit.{writes}
use Rattle.pc_word.specs.Row.{Commits, item_step}
use Rattle.pc_flow.specs.declared.node.FlowNode.{FlowNode}
use Rattle.pc_flow.specs.declared.node.FlowNode.TheVariants.{Op, Test, Stop, Trap}
use Rattle.pc_flow.specs.FlowGraph.{FlowGraph, IsFlow}
use Rattle.pc_flow.specs.FlowRun.{FlowState, flow_step}
use Rattle.pc_flow.specs.Reachable.{IsReachableNode}

-- a graph, the one that is made of it, and what their nodes are compared by
pub record Change : Type 1 where
  pub old : FlowGraph
  pub new : FlowGraph
  -- the first node is skipped: edges to it lead to the second instead, or past that one too
  pub Skips : ℕ → ℕ → Type 0
  -- what is known of the state, wherever the old graph comes to a node
  pub Knows : ℕ → State → Type 0
  -- the variables whose values still matter at a node; those of the others may differ
  pub Matters : ℕ → ℕ → Type 0

-- a way past nodes that are skipped
pub data Way (Skips : ℕ → ℕ → Type 0) : (from to : ℕ) → Type 0 where
  Here : {at : ℕ} → Way Skips at at
  Past : {at next to : ℕ} → Skips at next → Way Skips next to → Way Skips at to

-- where an edge to the first node leads instead: past nodes that are skipped, to one that is not
pub record LeadsPast (Skips : ℕ → ℕ → Type 0) (from to : ℕ) : Type 0 where
  pub way : Way Skips from to
  pub stays : (next : ℕ) → Skips to next → ⊥

-- ---- where the two graphs are

-- two states alike in all that matters
pub record AlikeIn (Matters : ℕ → Type 0) (s t : State) : Type 0 where
  pub same_cells : t.cells ≡ s.cells
  pub same_input : t.input ≡ s.input
  pub same_names : (x : ℕ) → Matters x → t.names x ≡ s.names x

-- where the old graph is and where the new one is
pub record Corresponds (change : Change) (here there : FlowState) : Type 0 where
  pub leads : LeadsPast change.Skips here.node there.node
  pub reached : IsReachableNode change.old here.node
  pub known : change.Knows here.node here.state
  pub alike : AlikeIn (change.Matters here.node) here.state there.state

-- ---- what becomes of a node

-- an item in the place of another: from each state in which the node can be reached it does the same, what it reads matters,
-- and so does what matters after it and is not written
pub record ItemBecomes (change : Change) (at : ℕ) (item other : Item) (to onward : ℕ) : Type 0 where
  pub leads : LeadsPast change.Skips to onward
  pub same_dest : dest_of other ≡ dest_of item
  pub does_same : (s : State) → change.Knows at s → item_step change.old.arrays other to s ≡ item_step change.old.arrays item to s
  pub reads : (x : ℕ) → list_any (λ operand. reads_name operand x) (operands_of other) ≡ true → change.Matters at x
  pub passes : (x : ℕ) → writes (dest_of item) x ≡ false → change.Matters to x → change.Matters at x
  pub knows : (s after : State) (printed : List ℤ) → change.Knows at s → item_step change.old.arrays item to s ≡ Commits printed after to
      → change.Knows to after

-- one side of a test of an operand, that where the operand holds or the other: where it leads to, and what matters and is known there
pub record SideBecomes (change : Change) (at : ℕ) (on : Operand) (side : Bool) (to onward : ℕ) : Type 0 where
  pub leads : LeadsPast change.Skips to onward
  pub passes : (x : ℕ) → change.Matters to x → change.Matters at x
  pub knows : (s : State) → change.Knows at s → holds (operand_value s.names on) ≡ side → change.Knows to s

-- an operand that is tested in the place of another
pub record OperandBecomes (change : Change) (at : ℕ) (on other : Operand) : Type 0 where
  pub same_value : (s : State) → change.Knows at s → operand_value s.names other ≡ operand_value s.names on
  pub reads : (x : ℕ) → reads_name other x ≡ true → change.Matters at x

-- a node in the place of another
pub data Becomes (change : Change) (at : ℕ) : FlowNode → FlowNode → Type 0 where
  Does : {item other : Item} {to onward : ℕ} → ItemBecomes change at item other to onward → Becomes change at (Op item to) (Op other onward)
  Tests : {on other : Operand} {to_yes to_no onward_yes onward_no : ℕ} {turn again : Option ℕ} →
      OperandBecomes change at on other →
      SideBecomes change at on true to_yes onward_yes →
      SideBecomes change at on false to_no onward_no →
      Becomes change at (Test on to_yes to_no turn) (Test other onward_yes onward_no again)
  Stops_too : Becomes change at Stop Stop
  Traps_too : {kind : TrapKind} {line : ℕ} → Becomes change at (Trap kind line) (Trap kind line)

-- the node with this number in the new graph
pub record BecomesAt (change : Change) (at : ℕ) (node : FlowNode) : Type 0 where
  pub other : FlowNode
  pub there : slice_get change.new.nodes at ≡ Some other
  pub becomes : Becomes change at node other

-- ---- skipped nodes

-- from this state the node does nothing that matters at the next one
pub record DoesNothing (change : Change) (at next : ℕ) (s : State) : Type 0 where
  pub after : State
  pub steps : flow_step change.old (record { node = at; state = s }) ≡ Goes [] (record { node = next; state = after })
  pub known : change.Knows next after
  pub same_cells : after.cells ≡ s.cells
  pub same_input : after.input ≡ s.input
  pub same_names : (x : ℕ) → change.Matters next x → after.names x ≡ s.names x

-- a node that is skipped
pub record IsSkipped (change : Change) (at next : ℕ) : Type 0 where
  pub lower : slice_index change.old.ranks next < slice_index change.old.ranks at
  pub reached : IsReachableNode change.old at → IsReachableNode change.old next
  pub passes : (x : ℕ) → change.Matters next x → change.Matters at x
  pub does_nothing : (s : State) → change.Knows at s → DoesNothing change at next s

-- ---- the whole

-- the new graph is made of the old one node by node
pub record IsChange (change : Change) : Type 0 where
  pub is_flow : IsFlow change.old
  pub same_arrays : change.new.arrays ≡ change.old.arrays
  pub same_initial : change.new.initial ≡ change.old.initial
  pub begins : LeadsPast change.Skips change.old.entry change.new.entry
  pub known_first : (input : List ℤ) → All IsWord input → change.Knows change.old.entry (start_state change.old.initial input)
  pub skips : (at next : ℕ) → IsReachableNode change.old at → change.Skips at next → IsSkipped change at next
  pub becomes : (at : ℕ) (node : FlowNode) → IsReachableNode change.old at → slice_get change.old.nodes at ≡ Some node
      → ((next : ℕ) → change.Skips at next → ⊥) → BecomesAt change at node
