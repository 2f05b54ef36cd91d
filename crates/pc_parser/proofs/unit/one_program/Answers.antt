use Rattle.pc_parser.proofs.Top.{one-program}
use Rattle.pc_parser.proofs.unit.one_program.Goals as goal

pub returns : goal.returns
returns c = one-program
