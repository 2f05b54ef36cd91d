use Rattle.std.proofs.Common.{sym, ap, ◌∙◌, ◌-◌, List, [], ◌∷◌, ◌++◌, length, arith}
use Rattle.std.proofs.lemmas.Result.{err_from_is_err_and}
use Rattle.pc_syntax.specs.declared.unit.Param.{Param}
use Rattle.pc_parser.proofs.Functions.{parameters-first, parameters-more, parameters-fail_first, parameters-fail_more}
use Rattle.pc_parser.proofs.function.parameter_list.Goals as goal

-- a failure of the first parameter
pub returns-in_err-first-clause-gives : goal.returns-in_err-first-clause-gives
returns-in_err-first-clause-gives c =
    let p = err_from_is_err_and c.from_residual.result c.from_residual.ensures.1 in
    rw (p.1, p.2) (parameters-fail_first c.args.tokens.now c.args.place _ c.in_err-first.ensures.gives)

-- the first parameter
pub loop-params-init : goal.loop-params-init
loop-params-init c =
    let tokens = c.args.tokens.now in
    let first = c.in_ok-first.first in
    let ends = c.in_ok-first.ensures.ends in
    record {
      turns = length tokens;
      enough = omega (arith, ends.0);
      same = parameters-first tokens c.push.new.self c.args.place first.tree first.height first.next c.in_ok-first.ensures.gives
          (c.in_ok-push.ensures.ok ∙ ap (λ (params : List Param). params ++ first.tree ∷ []) c.new-params.ensures);
      inside = ends.1;
      further = ends.0;
    }

-- a failure of a parameter after a comma
pub returns-in_err-other-clause-gives : goal.returns-in_err-other-clause-gives
returns-in_err-other-clause-gives c =
    let p = err_from_is_err_and c.from_residual-in_err-other.result c.from_residual-in_err-other.ensures.1 in
    let so_far = c.loop-params.invariant in
    let enough = so_far.enough in
    let inside = c.loop-params-test.ensures.inside in
    rw (p.1, p.2) (parameters-fail_more c.args.tokens.now _ c.loop-params.params c.loop-params.next so_far.turns so_far.same
    (sym c.loop-params-test.ensures.value) _ (omega arith) c.in_err-other.ensures.gives)

-- one parameter more
pub loop-params-preserved : goal.loop-params-preserved
loop-params-preserved c =
    let so_far = c.loop-params.invariant in
    let enough = so_far.enough in
    let was = so_far.further in
    let inside = c.loop-params-test.ensures.inside in
    let other = c.in_ok-other.other in
    let ends = c.in_ok-other.ensures.ends in
    record {
      turns = so_far.turns - 1;
      enough = omega (arith, ends.0);
      same = parameters-more c.args.tokens.now _ c.loop-params.params c.loop-params.next so_far.turns so_far.same
          (sym c.loop-params-test.ensures.value) c.push-in-loop-params.new.self other.tree other.height other.next
          (omega arith) c.in_ok-other.ensures.gives c.in_ok-push-2.ensures.ok;
      inside = ends.1;
      further = omega (arith, ends.0);
    }
