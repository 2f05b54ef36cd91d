use Rattle.std.proofs.Common.{◌≡◌, refl, sym, subst, ◌∙◌, [], Option, length, get_or}
use Rattle.pc_calls.specs.Refusals.{NoFunction, call_refusals}
use Rattle.pc_inline.specs.declared.error.InlineError.TheVariants as told
use Rattle.pc_inline.specs.models.First.{IsFirst}
use Rattle.pc_inline.proofs.Rows.{last_first}
use Rattle.pc_inline.proofs.Firsts.{IsFirst-made}
use Rattle.pc_inline.proofs.Finds.{arity-unfound, arity-found}
use Rattle.pc_inline.proofs.Refused.{others-refused, others-passed}
use Rattle.pc_inline.proofs.refusals.refuse_call.Goals as goal

-- no function of the name
pub returns-in-None-clause-refused : goal.returns-in-None-clause-refused
returns-in-None-clause-refused c =
    let none = arity-unfound (last_first c.args.functions.now) c.args.symbol (sym c.find.ensures.at ∙ c.in-None.is) in
    subst (λ (o : Option _). IsFirst (told.NoFunction c.args.at) (call_refusals o c.args.count c.args.at)) (sym none)
    (IsFirst-made (told.NoFunction c.args.at) (NoFunction c.args.at) [] refl)

-- a function with another number of parameters
pub returns-then-len-count-clause-refused : goal.returns-then-len-count-clause-refused
returns-then-len-count-clause-refused c =
    let some = arity-found c.args.functions.now c.args.symbol c.in-Some.place c.index-functions-place.result (sym c.find.ensures.at ∙ c.in-Some.is) in
    let wanted = length (get_or c.args.functions.now c.in-Some.place c.index-functions-place.result).params in
    subst (λ (o : Option _). IsFirst (told.Arguments c.args.at) (call_refusals o c.args.count c.args.at)) (sym some)
    (others-refused wanted c.args.count c.args.at (λ same. c.if-len-count.true (c.len.ensures ∙ same)))

-- as many parameters
pub returns-else-len-count-clause-passed : goal.returns-else-len-count-clause-passed
returns-else-len-count-clause-passed c =
    let some = arity-found c.args.functions.now c.args.symbol c.in-Some.place c.index-functions-place.result (sym c.find.ensures.at ∙ c.in-Some.is) in
    let wanted = length (get_or c.args.functions.now c.in-Some.place c.index-functions-place.result).params in
    subst (λ (o : Option _). call_refusals o c.args.count c.args.at ≡ []) (sym some)
    (others-passed wanted c.args.count c.args.at (sym c.len.ensures ∙ c.if-len-count.false))
