-- What the viewer came to is what it promises, once it is reported.
use Rattle.pc_command.specs.Requests.{view_command_of}
use Rattle.pc_command.specs.Words.{spelled}
use Rattle.pc_driver.specs.Streams.{streamed}
use Rattle.pc_viewer.specs.Outside.{surroundings}
use Rattle.pc_viewer.proofs.Endings.{viewer_promise}
use Rattle.pc_viewer.proofs.viewer.view.Goals as goal

pub returns : goal.returns
returns g c =
    let after = c.run_viewer-due.new in
    let out = streamed (g.O.Sink.taken c.args.out.now) (g.O.Sink.faults c.args.out.now) in
    let out_now = streamed (g.O.Sink.taken after.out) (g.O.Sink.faults after.out) in
    let err = streamed (g.E.Sink.taken c.args.err.now) (g.E.Sink.faults c.args.err.now) in
    let err_now = streamed (g.E.Sink.taken c.tell.new.err) (g.E.Sink.faults c.tell.new.err) in
    viewer_promise (view_command_of (spelled c.args.words.now)) (surroundings (g.H.Shelf.state c.args.shelf.now) out err)
    (surroundings (g.H.Shelf.state after.shelf) out_now err_now) c.run_viewer-due.result c.tell.result c.run_viewer-due.ensures.ends c.run_viewer-due.ensures.shelf
    c.tell.ensures
