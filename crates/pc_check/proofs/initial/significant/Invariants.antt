use Rattle.std.proofs.Common.{◌≡◌, ◌≤◌, take}
use Rattle.pc_check.specs.InitialData.{values_of, without_last_zeros}
use Rattle.pc_check.proofs.initial.significant.Given as goal

-- so many of the values so far stand in front of the zeros at their end
abbrev pub invariant-loop-place : goal.invariant-loop-place
invariant-loop-place l =
    record {
      within : l.kept ≤ l.place;
      so_far : without_last_zeros (values_of (take l.place l.values)) ≡ take l.kept (values_of l.values);
    }
