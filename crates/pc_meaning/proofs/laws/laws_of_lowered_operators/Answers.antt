use Rattle.pc_meaning.proofs.Operators.{prefix_value-lowered, binary_value-lowered, place_in-below, holds-unequal}
use Rattle.pc_meaning.proofs.laws.laws_of_lowered_operators.Goals as goal

pub returns-clause-unary : goal.returns-clause-unary
returns-clause-unary c = prefix_value-lowered

pub returns-clause-binary : goal.returns-clause-binary
returns-clause-binary c = binary_value-lowered

pub returns-clause-bounds : goal.returns-clause-bounds
returns-clause-bounds c = place_in-below

pub returns-clause-truth : goal.returns-clause-truth
returns-clause-truth c = holds-unequal
