-- What each program promises is its own promise.
use Rattle.pc_driver.specs.Streams.{streamed}
use Rattle.pc_tool.proofs.program.tool.Goals as goal

pub returns-in-Pcc-clause-compiler : goal.returns-in-Pcc-clause-compiler
returns-in-Pcc-clause-compiler g c = λ _.
    c.compiler.ensures.promise (streamed (g.I.Source.left c.args.input.now) (g.I.Source.faults c.args.input.now))
