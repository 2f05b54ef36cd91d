use Rattle.std.proofs.Common.{sym, ◌≤◌, arith}
use Rattle.std.proofs.lemmas.Bool.Decides.{nat_tests}
use Rattle.std.proofs.lemmas.Result.{err_from_is_err_and}
use Rattle.pc_syntax.specs.Erasure.{expression_of}
use Rattle.pc_parser.specs.models.ExpressionParser.{below}
use Rattle.pc_parser.proofs.Budgets.{climb-goes-on, climb-fails}
use Rattle.pc_parser.proofs.expression.+expression.Goals as goal

-- a failure of the next operand is that of the whole
pub climb-returns-in_err-left-clause-gives : goal.climb-returns-in_err-left-clause-gives
climb-returns-in_err-left-clause-gives t c =
    let p = err_from_is_err_and c.from_residual.result c.from_residual.ensures.1 in
    let some : 1 ≤ c.loop-operator.turns = grind (arith, nat_tests) in
    let tokens = c.args.tokens.now in
    let left = c.loop-operator.left in
    rw (p.1, p.2) (climb-fails tokens (below tokens c.args.budget) c.args.budget c.args.level c.loop-operator.turns (expression_of left.tree) left.height left.next
    (c.in-Some.operator, c.in-Some.rank) _ _ some
    (sym c.in-Some.ensures.value) c.in_err-left.ensures.gives c.loop-operator.invariant.same)

-- the operand with one more operator gives what the first operand does
pub climb-loop-operator-preserved : goal.climb-loop-operator-preserved
climb-loop-operator-preserved t c =
    let some : 1 ≤ c.loop-operator.turns = grind (arith, nat_tests) in
    let tokens = c.args.tokens.now in
    let left = c.loop-operator.left in
    let more = c.in_ok-left.left in
    let ends = c.in_ok-left.ensures.ends in
    record {
      same = climb-goes-on tokens (below tokens c.args.budget) c.args.budget c.args.level c.loop-operator.turns (expression_of left.tree) left.height left.next
          (c.in-Some.operator, c.in-Some.rank) (expression_of more.tree) more.height more.next _ some
          (sym c.in-Some.ensures.value) c.in_ok-left.ensures.gives c.loop-operator.invariant.same;
      low = ends.low;
      inside = ends.inside;
    }
