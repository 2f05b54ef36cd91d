-- The path that is taken through a row, and what its items do.
use Rattle.std.specs.Prelude.{◌≡◌, map, Some, slice_get}
use Rattle.pc_word.specs.Row.{path_of}
use Rattle.pc_machine.specs.MachineCode.{CodeRow, RowCode}
use Rattle.pc_machine.specs.MachineRun.{Cycle}
use Rattle.pc_trace.specs.Deeds.{deed_of}
use Rattle.pc_trace.specs.Trace.{sides_of}
use Rattle.pc_trace.specs.declared.cycle.Walk.{Walk}

-- the walk is that of the next cycle, through the row that is there
pub record IsWalk (code : RowCode) (here : Cycle) (walk : Walk) : Type 0 where
  pub through : CodeRow
  pub number : walk.row ≡ here.row
  pub there : slice_get code.rows here.row ≡ Some through
  pub sides : walk.sides.items ≡ sides_of here.state.names through
  pub deeds : walk.deeds.items ≡ map (deed_of code.arrays here.state) (path_of here.state.names through)
