-- What a stop before the run comes to.
use Rattle.pc_command.specs.Requests.{stat_request}
use Rattle.pc_driver.specs.Streams.{streamed}
use Rattle.pc_profiler.proofs.Endings.{stop_ends}
use Rattle.pc_profiler.proofs.profiler.profile_object.Goals as goal

pub returns-in-Err-clause-ends : goal.returns-in-Err-clause-ends
returns-in-Err-clause-ends g c =
    let old = g.H.Shelf.state c.args.shelf.now in
    let new = g.H.Shelf.state c.text_asked.new.shelf in
    let input = streamed (g.I.Source.left c.args.input.now) (g.I.Source.faults c.args.input.now) in
    let input_now = streamed (g.I.Source.left c.text_asked.new.input) (g.I.Source.faults c.text_asked.new.input) in
    let out = streamed (g.O.Sink.taken c.args.out.now) (g.O.Sink.faults c.args.out.now) in
    stop_ends (stat_request c.args.command) old new input input_now out c.in-Err.stop c.fault_at.result c.in-Err.ensures.text c.fault_at.ensures
