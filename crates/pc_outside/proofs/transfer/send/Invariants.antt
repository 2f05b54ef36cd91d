use Rattle.std.proofs.Common.{length, take, ◌-◌, ◌≤◌}
use Rattle.std.specs.Io.KnownBytes.{Appends}
use Rattle.pc_outside.proofs.transfer.send.Given as goal

abbrev pub invariant-loop-sent : goal.invariant-loop-sent
invariant-loop-sent g l =
    let taken = g.S.Sink.taken in
    record {
      within : l.sent ≤ length l.bytes;
      grew : Appends (taken l.initial.sink) (taken l.sink) (take l.sent l.bytes);
      counted : g.S.Sink.faults l.initial.sink ≤ g.S.Sink.faults l.sink;
    }

abbrev pub decreases-loop-sent : goal.decreases-loop-sent
decreases-loop-sent g l = length l.bytes - l.sent
