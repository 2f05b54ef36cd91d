-- An object has fewer rows than a number goes to, since each has a byte.
use Rattle.std.proofs.Common.{arith}
use Rattle.pc_object.proofs.Ranges.{few_rows}
use Rattle.pc_tool.proofs.compile.report_of.Goals as goal

pub overflow_cast-facts : goal.overflow_cast-facts
overflow_cast-facts g c =
    let few = few_rows c.args.compiled.now.object c.requires in
    omega (arith, few, c.len.ensures)
