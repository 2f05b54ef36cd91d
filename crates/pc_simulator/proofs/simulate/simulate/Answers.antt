-- What a run comes to, and what a stop before it does.
use Rattle.pc_command.specs.Requests.{simulate_request}
use Rattle.pc_driver.specs.Streams.{streamed}
use Rattle.pc_simulator.proofs.SimulatorEndings.{run_ends, stop_ends}
use Rattle.pc_simulator.proofs.simulate.simulate.Goals as goal

pub returns-in-Ok-clause-ends : goal.returns-in-Ok-clause-ends
returns-in-Ok-clause-ends g c =
    let old = g.H.Shelf.state c.args.shelf.now in
    let new = g.H.Shelf.state c.prepare.new.shelf in
    let input = streamed (g.I.Source.left c.args.input.now) (g.I.Source.faults c.args.input.now) in
    let input_now = streamed (g.I.Source.left c.prepare.new.input) (g.I.Source.faults c.prepare.new.input) in
    let out = streamed (g.O.Sink.taken c.args.out.now) (g.O.Sink.faults c.args.out.now) in
    let out_now = streamed (g.O.Sink.taken c.run_machine.new.out) (g.O.Sink.faults c.run_machine.new.out) in
    run_ends (simulate_request c.args.command) old new input input_now out out_now c.in-Ok.machine c.run_machine.result c.in-Ok.ensures.machine c.run_machine.ensures

pub returns-in-Err-clause-ends : goal.returns-in-Err-clause-ends
returns-in-Err-clause-ends g c =
    let old = g.H.Shelf.state c.args.shelf.now in
    let new = g.H.Shelf.state c.prepare.new.shelf in
    let input = streamed (g.I.Source.left c.args.input.now) (g.I.Source.faults c.args.input.now) in
    let input_now = streamed (g.I.Source.left c.prepare.new.input) (g.I.Source.faults c.prepare.new.input) in
    let out = streamed (g.O.Sink.taken c.args.out.now) (g.O.Sink.faults c.args.out.now) in
    stop_ends (simulate_request c.args.command) old new input input_now out c.in-Err.stop c.fault_at.result c.in-Err.ensures.machine c.fault_at.ensures
