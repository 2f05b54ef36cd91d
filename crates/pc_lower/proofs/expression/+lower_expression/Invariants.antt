use Rattle.std.proofs.Common.{◌+◌, ◌*◌}
use Rattle.pc_syntax.specs.Erasure.{expression_of}
use Rattle.pc_lower.proofs.Weights.{weight}
use Rattle.pc_lower.proofs.expression.+lower_expression.Given as goal

-- the parts of the tree; a helper stands above the trees that it is given

abbrev pub decreases-lower_expression : goal.decreases-lower_expression
decreases-lower_expression l = 2 * weight (expression_of l.expression.now)

abbrev pub decreases-lower_element : goal.decreases-lower_element
decreases-lower_element l = 2 * weight (expression_of l.index.now) + 1

abbrev pub decreases-lower_unary : goal.decreases-lower_unary
decreases-lower_unary l = 2 * weight (expression_of l.operand.now) + 1

abbrev pub decreases-lower_binary : goal.decreases-lower_binary
decreases-lower_binary l = 2 * (weight (expression_of l.left.now) + weight (expression_of l.right.now)) + 1

abbrev pub decreases-lower_both : goal.decreases-lower_both
decreases-lower_both l = 2 * (weight (expression_of l.left.now) + weight (expression_of l.right.now)) + 1

abbrev pub decreases-lower_either : goal.decreases-lower_either
decreases-lower_either l = 2 * (weight (expression_of l.left.now) + weight (expression_of l.right.now)) + 1

abbrev pub decreases-lower_choice : goal.decreases-lower_choice
decreases-lower_choice l = 2 * (weight (expression_of l.test.now) + weight (expression_of l.one.now) + weight (expression_of l.other.now)) + 1
