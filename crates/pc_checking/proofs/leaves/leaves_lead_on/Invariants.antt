use Rattle.std.proofs.Common.{◌≡◌, ◌+◌, drop, length, map}
use Rattle.std.specs.Prelude.{reverse}
use Rattle.std.specs.List.{AllByRecursion}
use Rattle.pc_word.specs.Row.{leaves_of}
use Rattle.pc_machine.specs.MachineCode.{row_of}
use Rattle.pc_window.specs.Steps.{front_row}
use Rattle.pc_window.specs.StoredWindow.{tree_in, front_in, window_in}
use Rattle.pc_matching.specs.Facts.{helds_of}
use Rattle.pc_settling.specs.Stored.{IsLeft}
use Rattle.pc_accepted.specs.Accepted.{with_limits}
use Rattle.pc_checking.specs.models.Stored.{left_window, arrivals_in, setting_in, departure_in, AreKept}
use Rattle.pc_checking.specs.models.Going.{LeavesGoOn}
use Rattle.pc_checking.proofs.leaves.leaves_lead_on.Given as goal

-- what comes of the leaves that follow, of which the last stands first, comes of all
abbrev pub invariant-loop-rest : goal.invariant-loop-rest
invariant-loop-rest l = record {
  many : l.leaf + length l.rests.items ≡ length l.helds;
  on : LeavesGoOn (setting_in l.setting) (departure_in l.departure) (with_limits l.setting.code.now.limits (window_in l.arranged)) (arrivals_in l.initial.arrivals)
      (helds_of l.helds) (leaves_of (row_of l.row)) (leaves_of (front_row (λ tree. tree) (front_in l.arranged.tree)))
      l.leaf (arrivals_in l.arrivals) (drop l.leaf (helds_of l.helds)) (drop l.leaf (leaves_of (row_of l.row))) (map tree_in (reverse l.rests.items));
  left : AllByRecursion (λ rest. IsLeft (left_window l.arranged l.setting.code.now.limits rest)) (reverse l.rests.items);
  kept : AreKept l.setting l.arrivals;
}

abbrev pub decreases-loop-rest : goal.decreases-loop-rest
decreases-loop-rest l = length l.rests.items
