use Rattle.pc_parser.proofs.NamesInOrder.{names-below}
use Rattle.pc_parser.proofs.unit.names_are_below.Goals as goal

pub returns : goal.returns
returns c = names-below
