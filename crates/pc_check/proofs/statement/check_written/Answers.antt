use Rattle.std.proofs.Common.{sym, subst, IfOk, IfErr}
use Rattle.pc_syntax.specs.Source.{SourceStatement}
use Rattle.pc_syntax.specs.Erasure.{statement_of}
use Rattle.pc_syntax.proofs.ErasureLaws.{statement_of-Scalar, statement_of-Array, statement_of-Assign}
use Rattle.pc_check.specs.Faults.{statement_faults}
use Rattle.pc_check.specs.models.Resolves.{IsFirst, StatementResolves}
use Rattle.pc_check.specs.models.View.{names_of}
use Rattle.pc_check.proofs.statement.check_written.Goals as goal

pub returns-in-Scalar-clause-refused : goal.returns-in-Scalar-clause-refused
returns-in-Scalar-clause-refused c =
    let P : SourceStatement → Type 0 =
    λ s. IfErr c.check_scalar.result (λ e. IsFirst e (statement_faults c.args.in_loop s (names_of c.args.scopes.now))) in
    subst P (sym (statement_of-Scalar c.args.from.now c.in-Scalar.symbol c.in-Scalar.line c.in-Scalar.init c.in-Scalar.is)) (c.check_scalar.ensures.refused c.args.in_loop)

pub returns-in-Array-clause-refused : goal.returns-in-Array-clause-refused
returns-in-Array-clause-refused c =
    let P : SourceStatement → Type 0 =
    λ s. IfErr c.check_array.result (λ e. IsFirst e (statement_faults c.args.in_loop s (names_of c.args.scopes.now))) in
    subst P (sym (statement_of-Array c.args.from.now c.in-Array.symbol c.in-Array.line c.in-Array.at c.in-Array.length c.in-Array.values c.in-Array.is)) (c.check_array.ensures.refused c.args.in_loop)

pub returns-in-Assign-clause-refused : goal.returns-in-Assign-clause-refused
returns-in-Assign-clause-refused c =
    let P : SourceStatement → Type 0 =
    λ s. IfErr c.check_assigned.result (λ e. IsFirst e (statement_faults c.args.in_loop s (names_of c.args.scopes.now))) in
    let is = statement_of-Assign c.args.from.now c.in-Assign.symbol c.in-Assign.line c.in-Assign.index c.in-Assign.bracket c.in-Assign.op
    c.in-Assign.at c.in-Assign.value c.in-Assign.is in
    subst P (sym is) (c.check_assigned.ensures.refused c.args.in_loop)

pub returns-in-Assign-clause-resolved : goal.returns-in-Assign-clause-resolved
returns-in-Assign-clause-resolved c =
    let names = names_of c.args.scopes.now in
    let P : SourceStatement → Type 0 =
    λ s. IfOk c.check_assigned.result (λ to. StatementResolves c.args.in_loop s names names (statement_of to)) in
    let is = statement_of-Assign c.args.from.now c.in-Assign.symbol c.in-Assign.line c.in-Assign.index c.in-Assign.bracket c.in-Assign.op
    c.in-Assign.at c.in-Assign.value c.in-Assign.is in
    subst P (sym is) (c.check_assigned.ensures.resolved c.args.in_loop)
