-- What is known behind a node, as the checker computes it.
use Rattle.std.specs.Prelude.{◌≡◌, ℕ, ℤ, pos, Bool, true, false, not, nat_eq, ◌&&◌, if◌then◌else◌, List, Option, Some, None, int_lt, int_le, slice_get, slice_set}
use Rattle.pc_word.specs.declared.item.Item.{Item}
use Rattle.pc_word.specs.declared.item.Item.TheVariants.{Bin, Copy, More}
use Rattle.pc_word.specs.declared.item.OpCode.{OpCode}
use Rattle.pc_word.specs.declared.item.Operand.{Operand}
use Rattle.pc_word.specs.declared.item.Operand.TheVariants.{Name, Lit}
use Rattle.pc_word.specs.Run.{Goes}
use Rattle.pc_word.specs.State.{State, start_state}
use Rattle.pc_word.specs.Items.{dest_of, reads_name}
use Rattle.pc_flow.specs.declared.node.FlowNode.{FlowNode}
use Rattle.pc_flow.specs.declared.node.FlowNode.TheVariants.{Op}
use Rattle.pc_flow.specs.FlowGraph.{FlowGraph}
use Rattle.pc_flow.specs.FlowRun.{FlowState, flow_step}
use Rattle.pc_ranges.specs.declared.interval.Interval.{Interval}
use Rattle.pc_ranges.specs.declared.bounds.Bounds.{Bounds}
use Rattle.pc_ranges.specs.Interval.{least, greatest, all_words, interval_of, operand_interval}
use Rattle.pc_ranges.specs.Bounds.{IsWithin, bounds_at}
use Rattle.pc_ranges.specs.Over.{over}
use Rattle.pc_ranges.specs.models.Narrowing.{narrowed_left, narrowed_right, tested}

-- ---- behind an item

-- the interval of the word that an item writes
abbrev pub given : List Interval → Item → Interval
given intervals (Bin op dest left right) = over op (operand_interval intervals left) (operand_interval intervals right)
given intervals (Copy dest from) = operand_interval intervals from
given intervals (More dest) = record { low = pos 0; high = pos 1 }
given intervals item = all_words

-- the intervals with another one of what is written
abbrev pub written : Option ℕ → Interval → List Interval → List Interval
written (Some dest) interval intervals = slice_set intervals dest interval
written None interval intervals = intervals

-- whether an item has an operator and does not read its own variable
abbrev pub stays_done : Item → Bool
stays_done (Bin op dest left right) = not (reads_name left dest) && not (reads_name right dest)
stays_done item = false

abbrev pub after_item : Bounds → ℕ → Item → Bounds
after_item bounds at item = record {
  intervals = written (dest_of item) (given bounds.intervals item) bounds.intervals;
  latest = if stays_done item then Some at else None;
}

-- ---- on a side of a test

abbrev pub with_operand : Operand → Interval → List Interval → List Interval
with_operand (Name variable) interval intervals = slice_set intervals variable interval
with_operand (Lit word) interval intervals = intervals

-- the two operands of a comparison, narrowed
abbrev pub narrowed : OpCode → (left right : Operand) → Bool → List Interval → List Interval
narrowed op left right side intervals =
    with_operand right (narrowed_right op side (operand_interval intervals left) (operand_interval intervals right))
    (with_operand left (narrowed_left op side (operand_interval intervals left) (operand_interval intervals right)) intervals)

-- so are they where the latest item wrote what is tested
abbrev pub compared : Option FlowNode → Operand → Bool → List Interval → List Interval
compared (Some (Op (Bin op dest left right) to)) on side intervals = if reads_name on dest then narrowed op left right side intervals else intervals
compared other on side intervals = intervals

abbrev pub latest_node : List FlowNode → Option ℕ → Option FlowNode
latest_node nodes (Some from) = slice_get nodes from
latest_node nodes None = None

abbrev pub on_side : FlowGraph → Bounds → Operand → Bool → Bounds
on_side flow bounds on side = record {
  intervals = compared (latest_node flow.nodes bounds.latest) on side (with_operand on (tested side (operand_interval bounds.intervals on)) bounds.intervals);
  latest = None;
}

-- ---- what leads to what

-- whether 0 lies in an interval
abbrev pub has_zero : Interval → Bool
has_zero interval = int_le interval.low (pos 0) && int_le (pos 0) interval.high

-- whether no number does
abbrev pub is_empty : Interval → Bool
is_empty interval = int_lt interval.high interval.low && (int_lt least interval.low && int_lt interval.high greatest)

-- whether each number of an interval lies in another one
abbrev pub is_inside : Interval → Interval → Bool
is_inside one other = int_le other.low one.low && int_le one.high other.high

-- whether the latest item is the one that is to be known, if any is
abbrev pub is_latest : (known wanted : Option ℕ) → Bool
is_latest known None = true
is_latest (Some known) (Some wanted) = nat_eq known wanted
is_latest None (Some wanted) = false

-- no number lies in the interval of some variable
pub record IsVoid (intervals : List Interval) : Type 0 where
  pub variable : ℕ
  pub empty : is_empty (interval_of intervals variable) ≡ true

-- the start is within what is known at the entry
abbrev pub BeginsWithin : FlowGraph → List Bounds → Type 0
BeginsWithin flow map = (input : List ℤ) → IsWithin flow (bounds_at map flow.entry) (start_state flow.initial input)

-- what is known is enough for what is to be known
pub record Implies (bounds target : Bounds) : Type 0 where
  pub holds : (flow : FlowGraph) (s : State) → IsWithin flow bounds s → IsWithin flow target s

-- a step from a node, at which so much is known, keeps the map
pub record GoesFrom (flow : FlowGraph) (bounds : Bounds) (map : List Bounds) (at : ℕ) : Type 0 where
  pub goes : (s : State) (next : FlowState) (printed : List ℤ) → IsWithin flow bounds s → flow_step flow (record { node = at; state = s }) ≡ Goes printed next
      → IsWithin flow (bounds_at map next.node) next.state

abbrev pub GoesOn : FlowGraph → List Bounds → ℕ → Type 0
GoesOn flow map at = GoesFrom flow (bounds_at map at) map at
