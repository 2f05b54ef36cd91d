use Rattle.std.proofs.Common.{◌≡◌, sym, ap, ◌∙◌, ◌+◌, ◌-◌, ◌<◌, List, [], ◌∷◌, ◌++◌, length, arith}
use Rattle.std.specs.Prelude.{max, map}
use Rattle.std.proofs.lemmas.Result.{err_from_is_err_and}
use Rattle.pc_syntax.specs.declared.expression.Expr.{Expr}
use Rattle.pc_syntax.specs.Erasure.{expression_of}
use Rattle.pc_parser.proofs.Arguments.{pushed, arguments-first, arguments-more, arguments-fail_first, arguments-fail_more}
use Rattle.pc_parser.proofs.Further.{expression-further}
use Rattle.pc_parser.proofs.call.argument_list.Goals as goal

-- a failure of the first argument
pub returns-in_err-first-clause-gives : goal.returns-in_err-first-clause-gives
returns-in_err-first-clause-gives c =
    let p = err_from_is_err_and c.from_residual.result c.from_residual.ensures.1 in
    rw (p.1, p.2) (arguments-fail_first c.args.tokens.now c.args.budget c.args.place _ c.in_err-first.ensures.gives)

-- the first argument
pub loop-alloc-init : goal.loop-alloc-init
loop-alloc-init c =
    let tokens = c.args.tokens.now in
    let first = c.in_ok-first.first in
    let ends = c.in_ok-first.ensures.ends in
    let further : c.args.place < first.next =
    expression-further tokens c.args.budget 0 c.args.place (expression_of first.tree) first.height first.next c.in_ok-first.ensures.gives in
    record {
      turns = length tokens;
      enough = omega arith;
      same = arguments-first tokens c.args.budget (map expression_of c.push.new.self) c.args.place (expression_of first.tree) first.height first.next c.in_ok-first.ensures.gives
          (ap (λ (l : List Expr). map expression_of l) (c.in_ok-push.ensures.ok ∙ ap (λ (l : List Expr). l ++ first.tree ∷ []) c.new-arguments.ensures));
      low = ends.low;
      inside = ends.inside;
    }

-- a failure of an argument after a comma
pub returns-in_err-other-clause-gives : goal.returns-in_err-other-clause-gives
returns-in_err-other-clause-gives c =
    let p = err_from_is_err_and c.from_residual-in_err-other.result c.from_residual-in_err-other.ensures.1 in
    let so_far = c.loop-alloc.invariant in
    let enough = so_far.enough in
    let inside = c.loop-alloc-test.ensures.inside in
    rw (p.1, p.2) (arguments-fail_more c.args.tokens.now c.args.budget _ (map expression_of c.loop-alloc.arguments) c.loop-alloc.height c.loop-alloc.next so_far.turns so_far.same
    (sym c.loop-alloc-test.ensures.value) _ (omega arith) c.in_err-other.ensures.gives)

-- one argument more
pub loop-alloc-preserved : goal.loop-alloc-preserved
loop-alloc-preserved c =
    let tokens = c.args.tokens.now in
    let so_far = c.loop-alloc.invariant in
    let enough = so_far.enough in
    let low = so_far.low in
    let inside = c.loop-alloc-test.ensures.inside in
    let other = c.in_ok-other.other in
    let ends = c.in_ok-other.ensures.ends in
    let more_low = ends.low in
    let further : c.loop-alloc.next + 1 < other.next =
    expression-further tokens c.args.budget 0 (c.loop-alloc.next + 1) (expression_of other.tree) other.height other.next c.in_ok-other.ensures.gives in
    let high : c.max-height.result ≡ max c.loop-alloc.height other.height = c.max-height.ensures in
    record {
      turns = so_far.turns - 1;
      enough = omega arith;
      same = arguments-more tokens c.args.budget _ (map expression_of c.loop-alloc.arguments) c.loop-alloc.height c.loop-alloc.next so_far.turns so_far.same
          (sym c.loop-alloc-test.ensures.value) (map expression_of c.push-in-loop-alloc.new.self) (expression_of other.tree) other.height other.next c.max-height.result
          (omega arith) c.in_ok-other.ensures.gives (pushed c.loop-alloc.arguments c.push-in-loop-alloc.new.self other.tree c.in_ok-push-2.ensures.ok) high;
      low = omega arith;
      inside = ends.inside;
    }

-- each argument is read further on
pub loop-alloc-smaller : goal.loop-alloc-smaller
loop-alloc-smaller c =
    let inside = c.loop-alloc-test.ensures.inside in
    let other = c.in_ok-other.other in
    let further : c.loop-alloc.next + 1 < other.next =
    expression-further c.args.tokens.now c.args.budget 0 (c.loop-alloc.next + 1) (expression_of other.tree) other.height other.next c.in_ok-other.ensures.gives in
    omega arith
