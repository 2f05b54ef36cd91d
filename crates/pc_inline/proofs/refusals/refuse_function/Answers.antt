use Rattle.std.proofs.Common.{◌≡◌, sym, subst, ◌∙◌, [], List, OnOk, IfErr}
use Rattle.pc_calls.specs.Refusals.{Refusal}
use Rattle.pc_inline.specs.models.First.{IsFirst}
use Rattle.pc_inline.proofs.Refused.{function_twice, function_once}
use Rattle.pc_inline.proofs.refusals.refuse_function.Goals as goal

-- a name that an earlier function has
pub returns-in-Some-clause-refused : goal.returns-in-Some-clause-refused
returns-in-Some-clause-refused c = function_twice c.args.earlier.now c.args.function.now _ (sym c.find.ensures.at ∙ c.in-Some.is)

-- another name
pub returns-in-None-clause-passed : goal.returns-in-None-clause-passed
returns-in-None-clause-passed c =
    subst (λ (x : List Refusal). OnOk c.refuse_list.result (x ≡ [])) (function_once c.args.earlier.now c.args.function.now (sym c.find.ensures.at ∙ c.in-None.is))
    c.refuse_list.ensures.passed

pub returns-in-None-clause-refused : goal.returns-in-None-clause-refused
returns-in-None-clause-refused c =
    subst (λ (x : List Refusal). IfErr c.refuse_list.result (λ e. IsFirst e x)) (function_once c.args.earlier.now c.args.function.now (sym c.find.ensures.at ∙ c.in-None.is))
    c.refuse_list.ensures.refused
