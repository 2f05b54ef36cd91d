use Rattle.pc_parser.proofs.UnitTop.{one-unit}
use Rattle.pc_parser.proofs.unit.one_unit.Goals as goal

pub returns : goal.returns
returns c = one-unit
