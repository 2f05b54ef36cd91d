use Rattle.std.proofs.Common.{◌≡◌, ◌<◌, sym, subst, [], List, OnOk, IfErr, length}
use Rattle.pc_syntax.proofs.UnitLaws.{unit_statement_of-Call, unit_statement_of-For}
use Rattle.pc_calls.specs.Refusals.{Refusal}
use Rattle.pc_inline.specs.models.First.{IsFirst}
use Rattle.pc_inline.proofs.Firsts.{passed_on, IsFirst-front, IsFirst-rest, rest_passed, rest_refused}
use Rattle.pc_inline.proofs.Refused.{of_call, of_for, none_more, first_more}
use Rattle.pc_inline.proofs.refusals.+refuse_statement.Goals as goal

-- a call
pub refuse_statement-returns-in-Call-clause-passed : goal.refuse_statement-returns-in-Call-clause-passed
refuse_statement-returns-in-Call-clause-passed t c =
    let is = unit_statement_of-Call c.args.statement.now c.in-Call.line c.in-Call.target c.in-Call.function c.in-Call.at c.in-Call.args c.in-Call.is in
    let P : List Refusal → Type 0 = λ x. OnOk c.refuse_call.result (x ≡ []) in
    subst P (of_call _ c.args.in_function c.args.in_loop _ _ _ _ _ c.in-Call.args is) (rw c.len.ensures at c.refuse_call.ensures.passed)

pub refuse_statement-returns-in-Call-clause-refused : goal.refuse_statement-returns-in-Call-clause-refused
refuse_statement-returns-in-Call-clause-refused t c =
    let is = unit_statement_of-Call c.args.statement.now c.in-Call.line c.in-Call.target c.in-Call.function c.in-Call.at c.in-Call.args c.in-Call.is in
    let P : List Refusal → Type 0 = λ x. IfErr c.refuse_call.result (λ e. IsFirst e x) in
    subst P (of_call _ c.args.in_function c.args.in_loop _ _ _ _ _ c.in-Call.args is) (rw c.len.ensures at c.refuse_call.ensures.refused)

-- the parts of a `for`, in the order of the text
pub refuse_statement-returns-in_err-refuse_list-in-For-clause-refused : goal.refuse_statement-returns-in_err-refuse_list-in-For-clause-refused
refuse_statement-returns-in_err-refuse_list-in-For-clause-refused t c =
    let is = unit_statement_of-For c.args.statement.now c.in-For.line c.in-For.first c.in-For.test c.in-For.step c.in-For.body c.in-For.is in
    passed_on _ c.in_err-refuse_list-in-For.field-0.0 _ c.from_residual-in_err-refuse_list-in-For.ensures.1
    (subst (λ (x : List Refusal). IsFirst c.in_err-refuse_list-in-For.field-0.0 x) (sym (of_for _ c.args.in_function c.args.in_loop _ _ _ _ _ _ is))
    (IsFirst-front c.in_err-refuse_list-in-For.field-0.0 _ _ c.in_err-refuse_list-in-For.ensures.refused))

pub refuse_statement-returns-in_err-refuse_optional-in-For-clause-refused : goal.refuse_statement-returns-in_err-refuse_optional-in-For-clause-refused
refuse_statement-returns-in_err-refuse_optional-in-For-clause-refused t c =
    let is = unit_statement_of-For c.args.statement.now c.in-For.line c.in-For.first c.in-For.test c.in-For.step c.in-For.body c.in-For.is in
    let e = c.in_err-refuse_optional-in-For.field-0.0 in
    passed_on _ e _ c.from_residual-in_err-refuse_optional-in-For.ensures.1
    (subst (λ (x : List Refusal). IsFirst e x) (sym (of_for _ c.args.in_function c.args.in_loop _ _ _ _ _ _ is))
    (IsFirst-rest e _ _ c.in_ok-refuse_list-in-For.ensures.passed (IsFirst-front e _ _ c.in_err-refuse_optional-in-For.ensures.refused)))

pub refuse_statement-returns-in_ok-refuse_optional-in-For-clause-passed : goal.refuse_statement-returns-in_ok-refuse_optional-in-For-clause-passed
refuse_statement-returns-in_ok-refuse_optional-in-For-clause-passed t c =
    let is = unit_statement_of-For c.args.statement.now c.in-For.line c.in-For.first c.in-For.test c.in-For.step c.in-For.body c.in-For.is in
    let P : List Refusal → Type 0 = λ x. OnOk c.refuse_statement-in-For.result (x ≡ []) in
    subst P (sym (of_for _ c.args.in_function c.args.in_loop _ _ _ _ _ _ is))
    (rest_passed _ _ _ c.in_ok-refuse_list-in-For.ensures.passed
    (rest_passed _ _ _ c.in_ok-refuse_optional-in-For.ensures.passed (rw c.deref-in-For.ensures at c.refuse_statement-in-For.ensures.passed)))

pub refuse_statement-returns-in_ok-refuse_optional-in-For-clause-refused : goal.refuse_statement-returns-in_ok-refuse_optional-in-For-clause-refused
refuse_statement-returns-in_ok-refuse_optional-in-For-clause-refused t c =
    let is = unit_statement_of-For c.args.statement.now c.in-For.line c.in-For.first c.in-For.test c.in-For.step c.in-For.body c.in-For.is in
    let P : List Refusal → Type 0 = λ x. IfErr c.refuse_statement-in-For.result (λ e. IsFirst e x) in
    subst P (sym (of_for _ c.args.in_function c.args.in_loop _ _ _ _ _ _ is))
    (rest_refused _ _ _ c.in_ok-refuse_list-in-For.ensures.passed
    (rest_refused _ _ _ c.in_ok-refuse_optional-in-For.ensures.passed (rw c.deref-in-For.ensures at c.refuse_statement-in-For.ensures.refused)))

-- one more statement
pub refuse_list-loop-item-preserved : goal.refuse_list-loop-item-preserved
refuse_list-loop-item-preserved t c =
    let same = c.as_slice-item-items.ensures in
    let below : c.loop-item.item-index < length c.args.items.now = rw same at c.loop-item-test.true in
    let read = rw same at c.item-item.is in
    none_more _ c.args.in_function c.args.in_loop c.args.items.now c.loop-item.item-index c.item-item.result below read c.loop-item.invariant c.in_ok-refuse_statement.ensures.passed

-- the first refusal is at this statement
pub refuse_list-returns-in_err-refuse_statement-clause-refused : goal.refuse_list-returns-in_err-refuse_statement-clause-refused
refuse_list-returns-in_err-refuse_statement-clause-refused t c =
    let same = c.as_slice-item-items.ensures in
    let below : c.loop-item.item-index < length c.args.items.now = rw same at c.loop-item-test.true in
    let read = rw same at c.item-item.is in
    passed_on _ c.in_err-refuse_statement.field-0.0 _ c.from_residual.ensures.1
    (first_more _ c.args.in_function c.args.in_loop c.in_err-refuse_statement.field-0.0 c.args.items.now c.loop-item.item-index c.item-item.result below read
    c.loop-item.invariant c.in_err-refuse_statement.ensures.refused)
