use Rattle.pc_parser.proofs.Lifts.{program-unit}
use Rattle.pc_parser.proofs.unit.program_is_unit.Goals as goal

pub returns : goal.returns
returns c = program-unit
