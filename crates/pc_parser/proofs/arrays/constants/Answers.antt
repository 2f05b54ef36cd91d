use Rattle.std.proofs.Common.{sym, ap, ◌∙◌, ◌-◌, List, [], ◌∷◌, ◌++◌, length, arith}
use Rattle.std.proofs.lemmas.Result.{err_from_is_err_and}
use Rattle.pc_syntax.specs.declared.constant.Const.{Const}
use Rattle.pc_parser.proofs.Constants.{constants-first, constants-more, constants-fail_first, constants-fail_more}
use Rattle.pc_parser.proofs.arrays.constants.Goals as goal

-- a failure of the first constant
pub returns-in_err-first-clause-gives : goal.returns-in_err-first-clause-gives
returns-in_err-first-clause-gives c =
    let p = err_from_is_err_and c.from_residual.result c.from_residual.ensures.1 in
    rw (p.1, p.2) (constants-fail_first c.args.tokens.now c.args.place _ c.in_err-first.ensures.gives)

-- the first constant
pub loop-values-init : goal.loop-values-init
loop-values-init c =
    let tokens = c.args.tokens.now in
    let first = c.in_ok-first.first in
    let ends = c.in_ok-first.ensures.ends in
    record {
      turns = length tokens;
      enough = omega (arith, ends.0);
      same = constants-first tokens c.push.new.self c.args.place first.tree first.height first.next c.in_ok-first.ensures.gives
          (c.in_ok-push.ensures.ok ∙ ap (λ (values : List Const). values ++ first.tree ∷ []) c.new-values.ensures);
      inside = ends.1;
      further = ends.0;
    }

-- a failure of a constant after a comma
pub returns-in_err-other-clause-gives : goal.returns-in_err-other-clause-gives
returns-in_err-other-clause-gives c =
    let p = err_from_is_err_and c.from_residual-in_err-other.result c.from_residual-in_err-other.ensures.1 in
    let so_far = c.loop-values.invariant in
    let enough = so_far.enough in
    let inside = c.loop-values-test.ensures.inside in
    rw (p.1, p.2) (constants-fail_more c.args.tokens.now _ c.loop-values.values c.loop-values.next so_far.turns so_far.same
    (sym c.loop-values-test.ensures.value) _ (sym c.if-is_mark.ensures.value) (omega arith) c.in_err-other.ensures.gives)

-- one constant more
pub loop-values-preserved : goal.loop-values-preserved
loop-values-preserved c =
    let so_far = c.loop-values.invariant in
    let enough = so_far.enough in
    let was = so_far.further in
    let inside = c.loop-values-test.ensures.inside in
    let other = c.in_ok-other.other in
    let ends = c.in_ok-other.ensures.ends in
    record {
      turns = so_far.turns - 1;
      enough = omega (arith, ends.0);
      same = constants-more c.args.tokens.now _ c.loop-values.values c.loop-values.next so_far.turns so_far.same
          (sym c.loop-values-test.ensures.value) c.push-in-loop-values.new.self other.tree other.height other.next
          (sym c.if-is_mark.ensures.value) (omega arith) c.in_ok-other.ensures.gives c.in_ok-push-2.ensures.ok;
      inside = ends.1;
      further = omega (arith, ends.0);
    }
