-- What the assembler came to is what it promises, once it is reported.
use Rattle.pc_command.specs.Requests.{assemble_command_of}
use Rattle.pc_command.specs.Words.{spelled}
use Rattle.pc_driver.specs.Streams.{streamed}
use Rattle.pc_assembler.specs.Outside.{surroundings}
use Rattle.pc_assembler.proofs.Endings.{assembler_promise}
use Rattle.pc_assembler.proofs.assembler.assemble.Goals as goal

pub returns : goal.returns
returns g c =
    let after = c.run_assembler-due.new in
    let err = streamed (g.E.Sink.taken c.args.err.now) (g.E.Sink.faults c.args.err.now) in
    let err_now = streamed (g.E.Sink.taken c.tell.new.err) (g.E.Sink.faults c.tell.new.err) in
    assembler_promise (assemble_command_of (spelled c.args.words.now)) (surroundings (g.H.Shelf.state c.args.shelf.now) err)
    (surroundings (g.H.Shelf.state after.shelf) err_now) c.run_assembler-due.result c.tell.result c.run_assembler-due.ensures c.tell.ensures
