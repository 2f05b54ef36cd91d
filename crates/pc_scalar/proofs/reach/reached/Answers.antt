use Rattle.std.proofs.Common.{◌<◌, ◌≤◌, length, arith}
use Rattle.pc_pass.proofs.Changes.{node_there}
use Rattle.pc_scalar.proofs.Meetings.{weight, meeting_begins, meeting_more, meeting_ends, next_met, next_there}
use Rattle.pc_scalar.proofs.reach.reached.Goals as goal

pub loop-done-init : goal.loop-done-init
loop-done-init c =
    let begun = meeting_begins c.args.flow.now c.count.result c.meet.new.flags c.meet.new.met c.count.ensures.number
    (rw (c.in_ok-flags.ensures, c.new-met.ensures, c.entry.ensures) at c.in_ok-meet.ensures) in
    record { is_flow = c.count.ensures.kept; meeting = begun.0; entry = begun.1; few = omega arith }

pub meet_behind-requires-clause-there : goal.meet_behind-requires-clause-there
meet_behind-requires-clause-there c =
    next_there c.args.flow.now c.loop-done.flags c.loop-done.met c.loop-done.done _ c.loop-done.invariant.is_flow c.loop-done.invariant.meeting
    (next_met c.loop-done.met c.as_slice.result.now c.loop-done.done c.as_slice.ensures (omega (arith, c.len.ensures, c.loop-done-test.true)))

pub loop-done-smaller : goal.loop-done-smaller
loop-done-smaller c =
    let next = next_met c.loop-done.met c.as_slice.result.now c.loop-done.done c.as_slice.ensures (omega (arith, c.len.ensures, c.loop-done-test.true)) in
    let there = next_there c.args.flow.now c.loop-done.flags c.loop-done.met c.loop-done.done _ c.loop-done.invariant.is_flow c.loop-done.invariant.meeting next in
    let node = node_there c.args.flow.now.nodes _ there in
    let more = meeting_more c.args.flow.now c.loop-done.flags c.meet_behind.new.flags c.loop-done.met c.meet_behind.new.met c.loop-done.done _ node.0 c.loop-done.invariant.meeting next node.1
    (c.in_ok-meet_behind.ensures node.0 node.1) in
    let lighter : weight c.meet_behind.new.flags c.meet_behind.new.met ≤ weight c.loop-done.flags c.loop-done.met = more.1 in
    let low : c.loop-done.done < length c.loop-done.met = omega (arith, c.len.ensures, c.loop-done-test.true) in
    omega arith

pub loop-done-preserved : goal.loop-done-preserved
loop-done-preserved c =
    let next = next_met c.loop-done.met c.as_slice.result.now c.loop-done.done c.as_slice.ensures (omega (arith, c.len.ensures, c.loop-done-test.true)) in
    let there = next_there c.args.flow.now c.loop-done.flags c.loop-done.met c.loop-done.done _ c.loop-done.invariant.is_flow c.loop-done.invariant.meeting next in
    let node = node_there c.args.flow.now.nodes _ there in
    let more = meeting_more c.args.flow.now c.loop-done.flags c.meet_behind.new.flags c.loop-done.met c.meet_behind.new.met c.loop-done.done _ node.0 c.loop-done.invariant.meeting next node.1
    (c.in_ok-meet_behind.ensures node.0 node.1) in
    record { is_flow = c.loop-done.invariant.is_flow; meeting = more.0; entry = more.3 c.args.flow.now.entry c.loop-done.invariant.entry; few = let low = more.2 in omega (arith, low) }

pub returns : goal.returns
returns c =
    meeting_ends c.args.flow.now c.loop-done.flags c.loop-done.met c.loop-done.done c.loop-done.invariant.is_flow c.loop-done.invariant.meeting
    (omega (arith, c.len.ensures, c.loop-done-test.false)) c.loop-done.invariant.entry
