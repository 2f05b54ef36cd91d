use Rattle.std.proofs.Common.{◌≤◌, length, drop}
use Rattle.pc_emit.proofs.Passings.{LeadsThrough}
use Rattle.pc_emit.proofs.passing.move_along.Given as goal

-- what was found leads through the rows from this one on
abbrev pub invariant-loop-at : goal.invariant-loop-at
invariant-loop-at l = record {
  within : l.at ≤ length l.rows;
  through : LeadsThrough l.fn.plan l.initial.output l.output l.from (drop l.at l.rows) l.fn.to;
}

abbrev pub decreases-loop-at : goal.decreases-loop-at
decreases-loop-at l = l.at
