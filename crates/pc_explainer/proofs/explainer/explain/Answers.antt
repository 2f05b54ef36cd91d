-- What the explainer came to is what it promises, once it is reported; with the status 0 each pass ran.
use Rattle.std.specs.Prelude.{map}
use Rattle.pc_command.specs.Requests.{explain_command_of}
use Rattle.pc_command.specs.Words.{spelled}
use Rattle.pc_driver.specs.Streams.{streamed}
use Rattle.pc_pass.specs.Pass.{Chain, EachRose}
use Rattle.pc_explainer.specs.Outside.{surroundings}
use Rattle.pc_explainer.proofs.Endings.{explainer_promise, with_success}
use Rattle.pc_explainer.proofs.explainer.explain.Goals as goal

pub returns-clause-promise : goal.returns-clause-promise
returns-clause-promise g c =
    let after = c.run_explainer-due.new in
    let out = streamed (g.O.Sink.taken c.args.out.now) (g.O.Sink.faults c.args.out.now) in
    let out_now = streamed (g.O.Sink.taken after.out) (g.O.Sink.faults after.out) in
    let err = streamed (g.E.Sink.taken c.args.err.now) (g.E.Sink.faults c.args.err.now) in
    let err_now = streamed (g.E.Sink.taken c.tell.new.err) (g.E.Sink.faults c.tell.new.err) in
    explainer_promise (Chain g.P.Pass.does g.P.Pass.changed c.args.passes.now.items after.passes.items)
    (surroundings (g.H.Shelf.state c.args.shelf.now) out err) (surroundings (g.H.Shelf.state after.shelf) out_now err_now)
    (explain_command_of (spelled c.args.words.now)) c.run_explainer-due.result c.tell.result c.run_explainer-due.ensures.ends c.run_explainer-due.ensures.shelf c.tell.ensures

pub returns-clause-ran : goal.returns-clause-ran
returns-clause-ran g c = λ success.
    let after = c.run_explainer-due.new in
    let out = streamed (g.O.Sink.taken c.args.out.now) (g.O.Sink.faults c.args.out.now) in
    let out_now = streamed (g.O.Sink.taken after.out) (g.O.Sink.faults after.out) in
    let err = streamed (g.E.Sink.taken c.args.err.now) (g.E.Sink.faults c.args.err.now) in
    let err_now = streamed (g.E.Sink.taken c.tell.new.err) (g.E.Sink.faults c.tell.new.err) in
    with_success (Chain g.P.Pass.does g.P.Pass.changed c.args.passes.now.items after.passes.items)
    (surroundings (g.H.Shelf.state c.args.shelf.now) out err) (surroundings (g.H.Shelf.state after.shelf) out_now err_now)
    (EachRose (map g.P.Pass.runs c.args.passes.now.items) (map g.P.Pass.runs after.passes.items))
    (explain_command_of (spelled c.args.words.now)) c.run_explainer-due.result c.tell.result c.run_explainer-due.ensures.ends c.tell.ensures success c.run_explainer-due.ensures.ran
