-- What the profiler came to is what it promises, once it is reported.
use Rattle.pc_command.specs.Requests.{stat_command_of}
use Rattle.pc_command.specs.Words.{spelled}
use Rattle.pc_driver.specs.Outside.{outside_of}
use Rattle.pc_driver.specs.Streams.{streamed}
use Rattle.pc_profiler.proofs.Endings.{profiler_promise}
use Rattle.pc_profiler.proofs.profiler.profile.Goals as goal

pub returns : goal.returns
returns g c =
    let after = c.run_profiler-due.new in
    let input = streamed (g.I.Source.left c.args.input.now) (g.I.Source.faults c.args.input.now) in
    let input_now = streamed (g.I.Source.left after.input) (g.I.Source.faults after.input) in
    let out = streamed (g.O.Sink.taken c.args.out.now) (g.O.Sink.faults c.args.out.now) in
    let out_now = streamed (g.O.Sink.taken after.out) (g.O.Sink.faults after.out) in
    let err = streamed (g.E.Sink.taken c.args.err.now) (g.E.Sink.faults c.args.err.now) in
    let err_now = streamed (g.E.Sink.taken c.tell.new.err) (g.E.Sink.faults c.tell.new.err) in
    profiler_promise (stat_command_of (spelled c.args.words.now)) (outside_of (g.H.Shelf.state c.args.shelf.now) input out err)
    (outside_of (g.H.Shelf.state after.shelf) input_now out_now err_now) c.run_profiler-due.result c.tell.result c.run_profiler-due.ensures.ends
    c.run_profiler-due.ensures.shelf c.run_profiler-due.ensures.lost c.tell.ensures
