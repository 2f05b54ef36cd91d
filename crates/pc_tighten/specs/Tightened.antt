-- What the tightening of a code gives.
use Rattle.std.specs.Prelude.{◌≡◌, ℕ, ◌≤◌, ℤ, List, Some, slice_get}
use Rattle.pc_word.specs.Run.{NeverFaults}
use Rattle.pc_word.specs.declared.item.Item.{Item}
use Rattle.pc_machine.specs.MachineCode.{CodeRow, RowCode}
use Rattle.pc_machine.specs.MachineRun.{machine_run}
use Rattle.pc_machine.specs.Reachable.{IsReachable}
use Rattle.pc_machine.specs.WellFormed.{WellFormed}
use Rattle.pc_tighten.specs.Compact.{Compact}
use Rattle.pc_tighten.specs.Moves.{MayMove, moved}
use Rattle.pc_tighten.specs.Removals.{IsGotoAlone, removed, HasNoGotoAlone}
use Rattle.pc_tighten.specs.Pace.{IsNoSlower}
use Rattle.pc_tighten.specs.Sizes.{Room, rows_room}

-- one code comes from another by moves alone
pub data ByMoves : RowCode → RowCode → Type 0 where
  No_move : {code : RowCode} → ByMoves code code
  Move : {code after : RowCode} (m t : ℕ) (above : CodeRow) (xs : List Item) (x : Item) (rest : CodeRow)
      → MayMove code m t above xs x rest → ByMoves (moved code m t above xs x rest) after → ByMoves code after

-- one code comes from another by removals alone
pub data ByRemovals : RowCode → RowCode → Type 0 where
  No_removal : {code : RowCode} → ByRemovals code code
  Removal : {code after : RowCode} (t u : ℕ) → IsGotoAlone code.rows t u → ByRemovals (removed code t u) after → ByRemovals code after

-- one code comes from another by removals alone, then by moves alone, and then by removals alone
pub record Tightens (code after : RowCode) : Type 0 where
  pub first : RowCode
  pub between : RowCode
  pub first_removals : ByRemovals code first
  pub moves : ByMoves first between
  pub removals : ByRemovals between after

-- each row is row 0, or leaves lead to it from row 0
abbrev pub EachIsReachable : List CodeRow → Type 0
EachIsReachable rows = (i : ℕ) (row : CodeRow) → slice_get rows i ≡ Some row → IsReachable rows i

-- the code after the tightening of a code
pub record IsTightened (before after : RowCode) : Type 0 where
  -- first rows are removed, then items move, and then rows are removed that they leave empty
  pub tightens : Tightens before after
  -- no item moves before each row is removed that is a goto alone: none comes to stand in such a row
  pub first_no_goto_alone : HasNoGotoAlone tightens.first.rows
  pub form : WellFormed after
  pub limits : after.limits ≡ before.limits
  pub registers : after.registers ≡ before.registers
  pub arrays : after.arrays ≡ before.arrays
  pub initial : after.initial ≡ before.initial
  -- where the run of the code before is never a fault, the run of the code after agrees with it and is no slower
  pub runs : (input : List ℤ) → NeverFaults (machine_run before input) → IsNoSlower (machine_run before input) (machine_run after input)
  -- its rows are written in no more room
  pub room : (room : Room) → rows_room room after.rows ≤ rows_room room before.rows
  pub reachable : EachIsReachable before.rows → EachIsReachable after.rows
  -- where each row was reachable: a row that was not may go, and then one leaf alone may lead to the row after it
  pub compact : EachIsReachable before.rows → Compact after
  pub no_goto_alone : HasNoGotoAlone after.rows
