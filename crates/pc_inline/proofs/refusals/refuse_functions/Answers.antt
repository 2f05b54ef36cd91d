use Rattle.std.proofs.Common.{refl}
use Rattle.pc_calls.specs.Refusals.{functions_refusals}
use Rattle.pc_inline.proofs.Firsts.{passed_on}
use Rattle.pc_inline.proofs.Refused.{none_more_functions, first_more_functions}
use Rattle.pc_inline.proofs.refusals.refuse_functions.Goals as goal

pub loop-at-init : goal.loop-at-init
unfolding functions_refusals
loop-at-init c = refl

-- one more function
pub loop-at-preserved : goal.loop-at-preserved
loop-at-preserved c =
    none_more_functions c.args.functions.now c.loop-at.at c.index-functions-at.result c.loop-at-test.true c.index-functions-at.is c.loop-at.invariant
    c.in_ok-refuse_function.ensures.passed

-- the first refusal is in this function
pub returns-in_err-refuse_function-clause-refused : goal.returns-in_err-refuse_function-clause-refused
returns-in_err-refuse_function-clause-refused c =
    passed_on _ c.in_err-refuse_function.field-0.0 _ c.from_residual.ensures.1
    (first_more_functions c.in_err-refuse_function.field-0.0 c.args.functions.now c.loop-at.at c.index-functions-at.result c.loop-at-test.true c.index-functions-at.is
    c.loop-at.invariant c.in_err-refuse_function.ensures.refused)
