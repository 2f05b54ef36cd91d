use Rattle.std.proofs.Common.{drop}
use Rattle.pc_table.specs.StoredTable.{table_of}
use Rattle.pc_window.specs.StoredWindow.{window_in}
use Rattle.pc_arranging.specs.Arranging.{begun}
use Rattle.pc_arranging.specs.CanArrange.{IsArrangedIn}
use Rattle.pc_arranging.specs.models.Doing.{GoesOn}
use Rattle.pc_arranging.proofs.arranging.do_steps.Given as goal

-- the steps that are left make of the window what all steps make of the first
abbrev pub invariant-loop-step : goal.invariant-loop-step
invariant-loop-step l = record {
  on : GoesOn (table_of l.table) l.steps (begun (window_in l.fn.window)) (drop l.step-index l.steps) (window_in l.current);
  arranged : IsArrangedIn (table_of l.table) l.current;
}
