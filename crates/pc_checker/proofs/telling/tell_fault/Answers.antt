use Rattle.std.proofs.Common.{inr, List, ℕ, subst}
use Rattle.pc_driver.specs.Streams.{streamed}
use Rattle.pc_driver.specs.Telling.{TellsLine}
use Rattle.pc_checker.proofs.telling.tell_fault.Goals as goal

-- there is no memory for the line
pub returns-in-Err : goal.returns-in-Err
returns-in-Err g c =
    let old = streamed (g.E.Sink.taken c.args.err.now) (g.E.Sink.faults c.args.err.now) in
    let new = streamed (g.E.Sink.taken c.send_line-in-Err.new.err) (g.E.Sink.faults c.send_line-in-Err.new.err) in
    inr (subst (λ (line : List ℕ). TellsLine line 1 old new c.send_line-in-Err.result) c.out_of_memory_line.ensures c.send_line-in-Err.ensures)
