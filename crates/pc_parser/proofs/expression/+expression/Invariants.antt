use Rattle.std.proofs.Common.{◌≡◌, ◌≤◌, ◌+◌, ◌*◌, length}
use Rattle.pc_syntax.specs.Erasure.{expression_of}
use Rattle.pc_parser.specs.models.ExpressionParser.{climb, below}
use Rattle.pc_parser.proofs.expression.+expression.Given as goal

abbrev pub decreases-expression : goal.decreases-expression
decreases-expression l = 6 * l.budget + 5

abbrev pub decreases-operand : goal.decreases-operand
decreases-operand l = 6 * l.budget + 4

abbrev pub decreases-unary : goal.decreases-unary
decreases-unary l = 6 * l.budget + 3

abbrev pub decreases-primary : goal.decreases-primary
decreases-primary l = 6 * l.budget + 2

abbrev pub decreases-name : goal.decreases-name
decreases-name l = 6 * l.budget + 1

abbrev pub decreases-climb : goal.decreases-climb
decreases-climb l = 6 * l.budget + 1

abbrev pub decreases-join : goal.decreases-join
decreases-join l = 6 * l.budget + 0

abbrev pub decreases-choice : goal.decreases-choice
decreases-choice l = 6 * l.budget + 0

abbrev pub decreases-signed : goal.decreases-signed
decreases-signed l = 6 * l.budget + 0

abbrev pub decreases-lvalue_named : goal.decreases-lvalue_named
decreases-lvalue_named l = 6 * l.budget + 0

abbrev pub decreases-grouped : goal.decreases-grouped
decreases-grouped l = 6 * l.budget + 0

-- the operand so far, with the turns that are left, gives what the first operand does
abbrev pub invariant-climb-loop-operator : goal.invariant-climb-loop-operator
invariant-climb-loop-operator l = record {
  same : climb l.tokens (below l.tokens l.budget) l.budget l.level l.budget (expression_of l.fn.left.tree) l.fn.left.height l.fn.left.next
      ≡ climb l.tokens (below l.tokens l.budget) l.budget l.level l.turns (expression_of l.left.tree) l.left.height l.left.next;
  low : l.left.height ≤ l.budget;
  inside : l.left.next ≤ length l.tokens;
}

abbrev pub decreases-climb-loop-operator : goal.decreases-climb-loop-operator
decreases-climb-loop-operator l = l.turns
