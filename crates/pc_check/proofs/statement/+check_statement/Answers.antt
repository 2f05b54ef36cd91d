use Rattle.std.proofs.Common.{sym, subst, ◌<◌, length, IfErr}
use Rattle.pc_syntax.specs.Source.{SourceStatement, Scope}
use Rattle.pc_syntax.specs.Erasure.{statement_of, list_of}
use Rattle.pc_syntax.proofs.ErasureLaws.{statement_of-While, statement_of-Do, statement_of-For, statement_of-made_For, statement_of-made_Block}
use Rattle.pc_check.specs.Faults.{statement_faults}
use Rattle.pc_check.specs.models.Resolves.{IsFirst, StatementResolves}
use Rattle.pc_check.specs.models.View.{names_of}
use Rattle.pc_check.proofs.FaultLaws.{passed_on}
use Rattle.pc_check.proofs.StatementLaws.{ListResolves-more, IsFirst-list}
use Rattle.pc_check.proofs.ScopeForms.{Scope-resolves, For-first, For-test, For-step, For-body, For-resolves}
use Rattle.pc_check.proofs.statement.+check_statement.Goals as goal

-- one more statement
pub check_list-loop-item-preserved : goal.check_list-loop-item-preserved
check_list-loop-item-preserved t c =
    let same = c.as_slice-item-items.ensures in
    let below : c.loop-item.item-index < length c.args.from.now = rw same at c.loop-item-test.true in
    let read = rw same at c.item-item.is in
    ListResolves-more c.args.in_loop c.args.from.now c.loop-item.items c.push.new.self c.loop-item.item-index c.item-item.result
    c.in_ok-item.item (names_of c.args.scopes.now) (names_of c.loop-item.scopes) (names_of c.check_statement.new.scopes) below read
    c.loop-item.invariant c.in_ok-item.ensures.resolved c.in_ok-push.ensures.ok

-- the first fault is at this statement
pub check_list-returns-in_err-item-clause-refused : goal.check_list-returns-in_err-item-clause-refused
check_list-returns-in_err-item-clause-refused t c =
    let same = c.as_slice-item-items.ensures in
    let below : c.loop-item.item-index < length c.args.from.now = rw same at c.loop-item-test.true in
    let read = rw same at c.item-item.is in
    passed_on _ c.in_err-item.field-0.0 _ c.from_residual.ensures.1
    (IsFirst-list c.in_err-item.field-0.0 c.args.in_loop c.args.from.now c.loop-item.items c.loop-item.item-index c.item-item.result
    (names_of c.args.scopes.now) (names_of c.loop-item.scopes) below read c.loop-item.invariant c.in_err-item.ensures.refused)

-- a block
pub check_block-returns-clause-resolved : goal.check_block-returns-clause-resolved
check_block-returns-clause-resolved t c =
    let P : SourceStatement → Type 0 = λ x. StatementResolves c.args.in_loop (Scope (list_of c.args.items.now)) (names_of c.args.scopes.now) (names_of c.leave.new.self) x in
    subst P (sym (statement_of-made_Block c.in_ok-items.items))
    (Scope-resolves c.args.in_loop (list_of c.args.items.now) (list_of c.in_ok-items.items) (names_of c.args.scopes.now)
    (names_of c.enter.new.self) (names_of c.check_list.new.scopes) (names_of c.leave.new.self) c.in_ok-enter.ensures.entered
    c.in_ok-items.ensures.resolved c.leave.ensures)

pub check_statement-returns-in-While-clause-refused : goal.check_statement-returns-in-While-clause-refused
check_statement-returns-in-While-clause-refused t c =
    let P : SourceStatement → Type 0 =
    λ s. IfErr c.check_while.result (λ e. IsFirst e (statement_faults c.args.in_loop s (names_of c.args.scopes.now))) in
    subst P (sym (statement_of-While c.args.from.now c.in-While.line c.in-While.test c.in-While.body c.in-While.is)) (rw c.deref-in-While.ensures at c.check_while.ensures.refused c.args.in_loop)

pub check_statement-returns-in-Do-clause-refused : goal.check_statement-returns-in-Do-clause-refused
check_statement-returns-in-Do-clause-refused t c =
    let P : SourceStatement → Type 0 =
    λ s. IfErr c.check_do.result (λ e. IsFirst e (statement_faults c.args.in_loop s (names_of c.args.scopes.now))) in
    subst P (sym (statement_of-Do c.args.from.now c.in-Do.line c.in-Do.body c.in-Do.test c.in-Do.is)) (rw c.deref-in-Do.ensures at c.check_do.ensures.refused c.args.in_loop)

-- the faults of the parts of a `for`, in their order
pub check_for-returns-in_err-first-in-For-clause-refused : goal.check_for-returns-in_err-first-in-For-clause-refused
check_for-returns-in_err-first-in-For-clause-refused t c =
    let is = statement_of-For c.args.from.now c.in-For.line c.in-For.first c.in-For.test c.in-For.step c.in-For.body c.in-For.is in
    passed_on _ c.in_err-first-in-For.field-0.0 _ c.from_residual-in_err-first-in-For.ensures.1
    (For-first c.args.in_loop _ _ _ _ _ _ is (names_of c.args.scopes.now) _ c.in_ok-enter-in-For.ensures.entered c.in_err-first-in-For.field-0.0 c.in_err-first-in-For.ensures.refused)

pub check_for-returns-in_err-test-in-For-clause-refused : goal.check_for-returns-in_err-test-in-For-clause-refused
check_for-returns-in_err-test-in-For-clause-refused t c =
    let is = statement_of-For c.args.from.now c.in-For.line c.in-For.first c.in-For.test c.in-For.step c.in-For.body c.in-For.is in
    passed_on _ c.in_err-test-in-For.field-0.0 _ c.from_residual-in_err-test-in-For.ensures.1
    (For-test c.args.in_loop _ _ _ _ _ _ is (names_of c.args.scopes.now) _ c.in_ok-enter-in-For.ensures.entered _ _ c.in_ok-first-in-For.ensures.resolved
    c.in_err-test-in-For.field-0.0 c.in_err-test-in-For.ensures.refused)

pub check_for-returns-in_err-step-in-For-clause-refused : goal.check_for-returns-in_err-step-in-For-clause-refused
check_for-returns-in_err-step-in-For-clause-refused t c =
    let is = statement_of-For c.args.from.now c.in-For.line c.in-For.first c.in-For.test c.in-For.step c.in-For.body c.in-For.is in
    passed_on _ c.in_err-step-in-For.field-0.0 _ c.from_residual-in_err-step-in-For.ensures.1
    (For-step c.args.in_loop _ _ _ _ _ _ is (names_of c.args.scopes.now) _ c.in_ok-enter-in-For.ensures.entered _ _ c.in_ok-first-in-For.ensures.resolved
    _ c.in_ok-test-in-For.ensures.resolved
    c.in_err-step-in-For.field-0.0 c.in_err-step-in-For.ensures.refused)

pub check_for-returns-in_err-body-in-For-clause-refused : goal.check_for-returns-in_err-body-in-For-clause-refused
check_for-returns-in_err-body-in-For-clause-refused t c =
    let is = statement_of-For c.args.from.now c.in-For.line c.in-For.first c.in-For.test c.in-For.step c.in-For.body c.in-For.is in
    passed_on _ c.in_err-body-in-For.field-0.0 _ c.from_residual-in_err-body-in-For.ensures.1
    (For-body c.args.in_loop _ _ _ _ _ _ is (names_of c.args.scopes.now) _ c.in_ok-enter-in-For.ensures.entered _ _ c.in_ok-first-in-For.ensures.resolved
    _ c.in_ok-test-in-For.ensures.resolved _ _ c.in_ok-step-in-For.ensures.resolved
    c.in_err-body-in-For.field-0.0 (rw c.deref.ensures at c.in_err-body-in-For.ensures.refused))

-- a `for` whose parts have no fault
pub check_for-returns-clause-resolved : goal.check_for-returns-clause-resolved
check_for-returns-clause-resolved t c =
    let is = statement_of-For c.args.from.now c.in-For.line c.in-For.first c.in-For.test c.in-For.step c.in-For.body c.in-For.is in
    let made = statement_of-made_For c.in-For.line c.in_ok-first-in-For.first c.in_ok-test-in-For.test c.in_ok-step-in-For.step c.in_ok-body-in-For.body in
    For-resolves c.args.in_loop _ _ _ _ _ _ is (names_of c.args.scopes.now) _ c.in_ok-enter-in-For.ensures.entered _ _ c.in_ok-first-in-For.ensures.resolved
    _ c.in_ok-test-in-For.ensures.resolved _ _ c.in_ok-step-in-For.ensures.resolved
    (names_of c.check_boxed.new.scopes) (names_of c.leave.new.self) (statement_of c.in_ok-body-in-For.body.value) _
    (rw c.deref.ensures at c.in_ok-body-in-For.ensures.resolved) c.leave.ensures made
