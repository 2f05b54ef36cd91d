-- What the checker came to is what it promises, once it is reported.
use Rattle.pc_command.specs.Requests.{check_command_of}
use Rattle.pc_command.specs.Words.{spelled}
use Rattle.pc_driver.specs.Streams.{streamed}
use Rattle.pc_pass.specs.Pass.{Chain}
use Rattle.pc_checker.specs.Outside.{surroundings}
use Rattle.pc_checker.proofs.Endings.{answered_promise, fault_promise}
use Rattle.pc_checker.proofs.checker.check_tool.Goals as goal

pub returns-in-Ok-clause-promise : goal.returns-in-Ok-clause-promise
returns-in-Ok-clause-promise g c =
    let before = streamed (g.E.Sink.taken c.args.err.now) (g.E.Sink.faults c.args.err.now) in
    let after = streamed (g.E.Sink.taken c.tell_answer.new.err) (g.E.Sink.faults c.tell_answer.new.err) in
    answered_promise (check_command_of (spelled c.args.words.now)) (Chain g.P.Pass.does g.P.Pass.changed c.args.passes.now.items c.run_checker.new.passes.items)
    (surroundings (g.H.Shelf.state c.args.shelf.now) before) (surroundings (g.H.Shelf.state c.run_checker.new.shelf) after) c.in-Ok.answer
    c.tell_answer.result.cut c.tell_answer.result.code c.in-Ok.ensures.ends c.tell_answer.ensures.told c.tell_answer.ensures.cut

pub returns-in-Err-clause-promise : goal.returns-in-Err-clause-promise
returns-in-Err-clause-promise g c =
    let before = streamed (g.E.Sink.taken c.args.err.now) (g.E.Sink.faults c.args.err.now) in
    let after = streamed (g.E.Sink.taken c.tell_fault.new.err) (g.E.Sink.faults c.tell_fault.new.err) in
    fault_promise (check_command_of (spelled c.args.words.now)) (Chain g.P.Pass.does g.P.Pass.changed c.args.passes.now.items c.run_checker.new.passes.items)
    (surroundings (g.H.Shelf.state c.args.shelf.now) before) (surroundings (g.H.Shelf.state c.run_checker.new.shelf) after) c.in-Err.fault
    c.tell_fault.result c.in-Err.ensures.ends c.tell_fault.ensures
