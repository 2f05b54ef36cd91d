use Rattle.std.proofs.Common.{◌≡◌, ◌-◌, ◌≤◌, true, Some, length}
use Rattle.std.specs.Prelude.{slice_get}
use Rattle.pc_flow.specs.FlowGraph.{IsFlow}
use Rattle.pc_scalar.proofs.Meetings.{Meeting, weight}
use Rattle.pc_scalar.proofs.reach.reached.Given as goal

-- the edges of the nodes so far are followed
abbrev pub invariant-loop-done : goal.invariant-loop-done
invariant-loop-done l = record {
  is_flow : IsFlow l.flow;
  meeting : Meeting l.flow l.flags l.met l.done;
  entry : slice_get l.flags l.flow.entry ≡ Some true;
  few : l.done ≤ length l.met;
}

abbrev pub decreases-loop-done : goal.decreases-loop-done
decreases-loop-done l = weight l.flags l.met - l.done
