-- A tree that is given ends after its beginning.
use Rattle.std.proofs.Common.{◌≡◌, refl, subst, ℕ, ◌+◌, ◌<◌, ◌≤◌, List, arith}
use Rattle.pc_lexer.specs.declared.token.Token.{Token}
use Rattle.pc_syntax.specs.Source.{SourceExpression}
use Rattle.pc_syntax.specs.Unit.{UnitStatement, UnitFunction}
use Rattle.pc_parser.specs.declared.calls.Calls.{Calls}
use Rattle.pc_parser.specs.declared.storage.Storage.{Storage}
use Rattle.pc_parser.specs.models.Outcome.{Parsed}
use Rattle.pc_parser.specs.models.ExpressionParser.{expression_at}
use Rattle.pc_parser.specs.models.UnitParser.{function_at}
use Rattle.pc_parser.specs.models.StatementParser.{declarator_at, statement_at}
use Rattle.pc_parser.proofs.Local.{Goes}
use Rattle.pc_parser.proofs.LocalExpressions.{expression_at-local}
use Rattle.pc_parser.proofs.LocalUnits.{function_at-local}
use Rattle.pc_parser.proofs.LocalStatements.{declarator_at-local, statement_at-local}

module _ (tokens : List Token) where
  pub expression-further : (budget level from : ℕ) (tree : SourceExpression) (height to : ℕ) → expression_at tokens budget level from ≡ Parsed tree height to → from < to
  expression-further budget level from tree height to is =
      let goes : from + 1 ≤ to =
      subst (λ o. Goes 1 from o) is
      (expression_at-local 0 ⊥ tokens tokens (λ i low. refl) (λ i low. refl) budget budget (record { low = omega arith; same = λ e. refl }) level from).goes in
      omega arith

  pub statement-further : (calls : Calls) (budget from : ℕ) (tree : UnitStatement) (height to : ℕ) → statement_at tokens calls budget from ≡ Parsed tree height to → from < to
  statement-further calls budget from tree height to is =
      let goes : from + 1 ≤ to =
      subst (λ o. Goes 1 from o) is
      (statement_at-local 0 ⊥ tokens tokens calls (λ i low. refl) (λ i low. refl) (omega arith) (omega arith) budget budget
      (record { low = omega arith; same = λ e. refl }) from).goes in omega arith

  pub declarator-further : (calls : Calls) (budget : ℕ) (storage : Storage) (from : ℕ) (tree : UnitStatement) (height to : ℕ) →
      declarator_at tokens calls budget storage from ≡ Parsed tree height to → from < to
  declarator-further calls budget storage from tree height to is =
      let goes : from + 1 ≤ to =
      subst (λ o. Goes 1 from o) is
      (declarator_at-local 0 ⊥ tokens tokens calls (λ i low. refl) (λ i low. refl) budget budget (record { low = omega arith; same = λ e. refl })
      (omega arith) (omega arith) storage from).goes in omega arith

  pub function-further : (budget symbol from : ℕ) (function : UnitFunction) (height to : ℕ) → function_at tokens budget symbol from ≡ Parsed function height to → from + 2 < to
  function-further budget symbol from function height to is =
      let goes : from + 2 + 1 ≤ to =
      subst (λ o. Goes 1 (from + 2) o) is
      (function_at-local 0 ⊥ tokens tokens (λ i low. refl) (λ i low. refl) (omega arith) (omega arith) budget budget (record { low = omega arith; same = λ e. refl }) symbol from).goes in
      omega arith
