-- The fault that is due is told.
use Rattle.std.proofs.Common.{refl}
use Rattle.pc_command.specs.Requests.{compile_command_of}
use Rattle.pc_command.specs.Words.{spelled}
use Rattle.pc_driver.specs.Outside.{outside_of}
use Rattle.pc_driver.specs.Streams.{streamed}
use Rattle.pc_tool.proofs.CompilerEndings.{due_promise}
use Rattle.pc_tool.proofs.compile.compiler.Goals as goal

pub returns-in-Err-clause-promise : goal.returns-in-Err-clause-promise
returns-in-Err-clause-promise g c = λ input.
    let after = c.run_compiler.new in
    let out = streamed (g.O.Sink.taken c.args.out.now) (g.O.Sink.faults c.args.out.now) in
    let out_now = streamed (g.O.Sink.taken after.out) (g.O.Sink.faults after.out) in
    let err = streamed (g.E.Sink.taken c.args.err.now) (g.E.Sink.faults c.args.err.now) in
    let err_now = streamed (g.E.Sink.taken c.tell.new.err) (g.E.Sink.faults c.tell.new.err) in
    due_promise (compile_command_of (spelled c.args.words.now)) _ _ (outside_of (g.H.Shelf.state c.args.shelf.now) input out err)
    (outside_of (g.H.Shelf.state after.shelf) input out_now err_now) _ c.tell.result c.in-Err.ensures.ends refl c.tell.ensures
