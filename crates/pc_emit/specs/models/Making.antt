-- Rows of regions in the making, and what is so of the copies after them.
use Rattle.std.specs.Prelude.{◌≡◌, ℕ, zero, ◌<◌, ◌≤◌, List, Contains, Option, Some, None, length, slice_get}
use Rattle.pc_table.specs.Table.{TableTree}
use Rattle.pc_machine.specs.declared.tree.Leaf.{Leaf}
use Rattle.pc_machine.specs.declared.tree.Leaf.TheVariants.{Goto}
use Rattle.pc_machine.specs.MachineCode.{CodeRow}
use Rattle.pc_machine.specs.WellFormed.{IsLeaf, IsRow}
use Rattle.pc_machine.specs.Reachable.{IsReachable}
use Rattle.pc_object.specs.ObjectText.{leaf_text}
use Rattle.pc_emit.specs.Bytes.{tree_bytes, states_bytes}
use Rattle.pc_emit.specs.Emitting.{AreEnough}
use Rattle.pc_emit.specs.Emitted.{RegionForm, Plain, ByAutomaton, TreeStands, RegionStands}
use Rattle.pc_emit.specs.declared.output.Output.{Output}
use Rattle.pc_emit.specs.declared.plan.Plan.{Plan}
use Rattle.pc_emit.specs.models.Output.{Stays}
use Rattle.pc_emit.specs.models.Layout.{forms_at, emission_in, rows_end}
use Rattle.pc_object.specs.Sizes.{goto_bytes}

-- ---- what copies lead to, and what leads to them

-- a leaf that copies may lead to: a row of a region, or the end
pub record CopiesMayLeadTo (plan : Plan) (leaf : Leaf) : Type 0 where
  pub within : IsLeaf (rows_end plan) leaf
  pub short : length (leaf_text leaf) ≤ goto_bytes

-- all rows that leaves lead to are reached
abbrev pub LeavesReached : List Leaf → List CodeRow → Type 0
LeavesReached leaves final = (number : ℕ) → Contains leaves (Goto number) → IsReachable final number

-- all rows from one on and before another are reached
abbrev pub RowsReached : (from to : ℕ) → List CodeRow → Type 0
RowsReached from to final = (number : ℕ) → from ≤ number → number < to → IsReachable final number

-- a row keeps the limits, and it is reached where this is
pub record IsOnTheWay (plan : Plan) (Reached : List CodeRow → Type 0) (final : List CodeRow) (number : ℕ) : Type 0 where
  pub fits : (count : ℕ) → AreEnough count (forms_at plan) → rows_end plan ≤ length final → (row : CodeRow) → slice_get final number ≡ Some row
      → IsRow plan.limits count (length plan.table.now.arrays) (length final) row
  pub reached : Reached final → IsReachable final number

-- ---- regions

-- the bytes of a region's rows, without a leaf alone in front of them
abbrev pub bytes_in : TableTree → Option RegionForm → ℕ
bytes_in tree None = zero
bytes_in tree (Some Plain) = tree_bytes tree
bytes_in tree (Some (ByAutomaton states registers)) = states_bytes states

-- the rows of a tree stand from this one on, whatever will be made
pub record TreeMade (plan : Plan) (output : Output) (row : ℕ) (tree : TableTree) : Type 0 where
  pub stands : (final : List CodeRow) → Stays output final → TreeStands (emission_in plan) final row tree

-- the rows of a region stand
pub record RegionMade (plan : Plan) (output : Output) (region : ℕ) : Type 0 where
  pub stands : (form : RegionForm) → forms_at plan region ≡ Some form → (final : List CodeRow) → Stays output final → RegionStands (emission_in plan) final region form

-- so do those of the first regions
pub record RegionsMade (plan : Plan) (output : Output) (count : ℕ) : Type 0 where
  pub each : (region : ℕ) → region < count → RegionMade plan output region
