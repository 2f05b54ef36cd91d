use Rattle.std.proofs.Common.{List}
use Rattle.pc_syntax.specs.declared.expression.Expr.{Expr}
use Rattle.pc_syntax.specs.Erasure.{expression_of}
use Rattle.pc_check.specs.declared.error.CheckError.{CheckError}
use Rattle.pc_check.specs.Faults.{expression_faults}
use Rattle.pc_check.specs.models.View.{names_of}
use Rattle.pc_check.proofs.FaultLaws.{IsFirst-front, IsFirst-rest, in_front, in_rest, passed_on}
use Rattle.pc_check.proofs.ExpressionLaws.{faults_of-Binary, faults_of-Both, faults_of-Either, faults_of-Choose}
use Rattle.pc_check.proofs.expression.+resolve_expression.Goals as goal

pub resolve_binary-returns-in_err-left-in-Binary-clause-refused : goal.resolve_binary-returns-in_err-left-in-Binary-clause-refused
resolve_binary-returns-in_err-left-in-Binary-clause-refused t c =
    let at = faults_of-Binary (names_of c.args.scopes.now) c.args.from.now c.in-Binary.op c.in-Binary.at c.in-Binary.left c.in-Binary.right c.in-Binary.is in
    let first = in_front c.in_err-left-in-Binary.field-0.0 _ _ _ at (rw c.deref.ensures at c.in_err-left-in-Binary.ensures.refused) in
    passed_on _ c.in_err-left-in-Binary.field-0.0 _ c.from_residual.ensures.1 first

pub resolve_binary-returns-in_err-right-in-Binary-clause-refused : goal.resolve_binary-returns-in_err-right-in-Binary-clause-refused
resolve_binary-returns-in_err-right-in-Binary-clause-refused t c =
    let at = faults_of-Binary (names_of c.args.scopes.now) c.args.from.now c.in-Binary.op c.in-Binary.at c.in-Binary.left c.in-Binary.right c.in-Binary.is in
    let none = rw c.deref.ensures at c.in_ok-left-in-Binary.ensures.resolved.faultless in
    let first = in_rest c.in_err-right-in-Binary.field-0.0 _ _ _ at none (rw c.deref-in-Binary.ensures at c.in_err-right-in-Binary.ensures.refused) in
    passed_on _ c.in_err-right-in-Binary.field-0.0 _ c.from_residual-in_err-right-in-Binary.ensures.1 first

pub resolve_expression-returns-in_err-left-in-Both-clause-refused : goal.resolve_expression-returns-in_err-left-in-Both-clause-refused
resolve_expression-returns-in_err-left-in-Both-clause-refused t c =
    let at = faults_of-Both (names_of c.args.scopes.now) c.args.from.now c.in-Both.left c.in-Both.right c.in-Both.is in
    let first = in_front c.in_err-left-in-Both.field-0.0 _ _ _ at (rw c.deref-in-Both.ensures at c.in_err-left-in-Both.ensures.refused) in
    passed_on _ c.in_err-left-in-Both.field-0.0 _ c.from_residual-in_err-left-in-Both.ensures.1 first

pub resolve_expression-returns-in_err-right-in-Both-clause-refused : goal.resolve_expression-returns-in_err-right-in-Both-clause-refused
resolve_expression-returns-in_err-right-in-Both-clause-refused t c =
    let at = faults_of-Both (names_of c.args.scopes.now) c.args.from.now c.in-Both.left c.in-Both.right c.in-Both.is in
    let none = rw c.deref-in-Both.ensures at c.in_ok-left-in-Both.ensures.resolved.faultless in
    let first = in_rest c.in_err-right-in-Both.field-0.0 _ _ _ at none (rw c.deref-in-Both-2.ensures at c.in_err-right-in-Both.ensures.refused) in
    passed_on _ c.in_err-right-in-Both.field-0.0 _ c.from_residual-in_err-right-in-Both.ensures.1 first

pub resolve_expression-returns-in_err-left-in-Either-clause-refused : goal.resolve_expression-returns-in_err-left-in-Either-clause-refused
resolve_expression-returns-in_err-left-in-Either-clause-refused t c =
    let at = faults_of-Either (names_of c.args.scopes.now) c.args.from.now c.in-Either.left c.in-Either.right c.in-Either.is in
    let first = in_front c.in_err-left-in-Either.field-0.0 _ _ _ at (rw c.deref-in-Either.ensures at c.in_err-left-in-Either.ensures.refused) in
    passed_on _ c.in_err-left-in-Either.field-0.0 _ c.from_residual-in_err-left-in-Either.ensures.1 first

pub resolve_expression-returns-in_err-right-in-Either-clause-refused : goal.resolve_expression-returns-in_err-right-in-Either-clause-refused
resolve_expression-returns-in_err-right-in-Either-clause-refused t c =
    let at = faults_of-Either (names_of c.args.scopes.now) c.args.from.now c.in-Either.left c.in-Either.right c.in-Either.is in
    let none = rw c.deref-in-Either.ensures at c.in_ok-left-in-Either.ensures.resolved.faultless in
    let first = in_rest c.in_err-right-in-Either.field-0.0 _ _ _ at none (rw c.deref-in-Either-2.ensures at c.in_err-right-in-Either.ensures.refused) in
    passed_on _ c.in_err-right-in-Either.field-0.0 _ c.from_residual-in_err-right-in-Either.ensures.1 first

pub resolve_expression-returns-in_err-test-in-Choose-clause-refused : goal.resolve_expression-returns-in_err-test-in-Choose-clause-refused
resolve_expression-returns-in_err-test-in-Choose-clause-refused t c =
    let names = names_of c.args.scopes.now in
    let at = faults_of-Choose names c.args.from.now c.in-Choose.test c.in-Choose.yes c.in-Choose.no c.in-Choose.is in
    let first = in_front c.in_err-test-in-Choose.field-0.0 _ _ _ at (rw c.deref-in-Choose.ensures at c.in_err-test-in-Choose.ensures.refused) in
    passed_on _ c.in_err-test-in-Choose.field-0.0 _ c.from_residual-in_err-test-in-Choose.ensures.1 first

pub resolve_expression-returns-in_err-yes-in-Choose-clause-refused : goal.resolve_expression-returns-in_err-yes-in-Choose-clause-refused
resolve_expression-returns-in_err-yes-in-Choose-clause-refused t c =
    let names = names_of c.args.scopes.now in
    let at = faults_of-Choose names c.args.from.now c.in-Choose.test c.in-Choose.yes c.in-Choose.no c.in-Choose.is in
    let faults : Expr → List CheckError = λ x. expression_faults names (expression_of x) in
    let tested = rw c.deref-in-Choose.ensures at c.in_ok-test-in-Choose.ensures.resolved.faultless in
    let refused = rw c.deref-in-Choose-2.ensures at c.in_err-yes-in-Choose.ensures.refused in
    let first = in_rest c.in_err-yes-in-Choose.field-0.0 _ _ _ at tested (IsFirst-front c.in_err-yes-in-Choose.field-0.0 (faults c.in-Choose.yes.value) (faults c.in-Choose.no.value) refused) in
    passed_on _ c.in_err-yes-in-Choose.field-0.0 _ c.from_residual-in_err-yes-in-Choose.ensures.1 first

pub resolve_expression-returns-in_err-no-in-Choose-clause-refused : goal.resolve_expression-returns-in_err-no-in-Choose-clause-refused
resolve_expression-returns-in_err-no-in-Choose-clause-refused t c =
    let names = names_of c.args.scopes.now in
    let at = faults_of-Choose names c.args.from.now c.in-Choose.test c.in-Choose.yes c.in-Choose.no c.in-Choose.is in
    let faults : Expr → List CheckError = λ x. expression_faults names (expression_of x) in
    let tested = rw c.deref-in-Choose.ensures at c.in_ok-test-in-Choose.ensures.resolved.faultless in
    let chosen = rw c.deref-in-Choose-2.ensures at c.in_ok-yes-in-Choose.ensures.resolved.faultless in
    let refused = rw c.deref-in-Choose-3.ensures at c.in_err-no-in-Choose.ensures.refused in
    let first = in_rest c.in_err-no-in-Choose.field-0.0 _ _ _ at tested (IsFirst-rest c.in_err-no-in-Choose.field-0.0 (faults c.in-Choose.yes.value) (faults c.in-Choose.no.value) chosen refused) in
    passed_on _ c.in_err-no-in-Choose.field-0.0 _ c.from_residual-in_err-no-in-Choose.ensures.1 first
