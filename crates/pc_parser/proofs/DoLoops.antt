-- A `do` whose last `;` is missing.
use Rattle.std.proofs.Common.{◌≡◌, sym, ◌∙◌, subst, ℕ, ◌+◌, ◌-◌, ◌≤◌, true, false, List, arith}
use Rattle.pc_lexer.specs.declared.token.Token.{Token}
use Rattle.pc_lexer.specs.declared.mark.Mark.TheVariants as marks
use Rattle.pc_lexer.specs.declared.keyword.Keyword.TheVariants as keys
use Rattle.pc_syntax.specs.Source.{SourceExpression}
use Rattle.pc_syntax.specs.Unit.{UnitStatement}
use Rattle.pc_parser.specs.declared.calls.Calls.{Calls}
use Rattle.pc_parser.specs.declared.outcome.Failure.{Failure}
use Rattle.pc_parser.specs.declared.outcome.Failure.TheVariants as failures
use Rattle.pc_parser.specs.Places.{kind_at}
use Rattle.pc_parser.specs.models.Tests.{is_mark, is_key}
use Rattle.pc_parser.specs.models.Outcome.{Parsed}
use Rattle.pc_parser.specs.models.StatementParser.{parenthesized_at, do_at, statement_at, statement_below}
use Rattle.pc_parser.specs.models.Parsing.{FailsParsing}
use Rattle.pc_parser.proofs.Budgets.{below-statement}
use Rattle.pc_parser.proofs.Finds.{allowed-yes, after-parsed, cond-yes, cond-no}

pub do-unended : (tokens : List Token) (calls : Calls) (b p : ℕ) (body : UnitStatement) (i q : ℕ) (test : SourceExpression) (j r : ℕ) (failure : Failure) → 2 ≤ b →
    statement_at tokens calls (b - 1) (p + 1) ≡ Parsed body i q → is_key keys.While (kind_at tokens q) ≡ true → parenthesized_at tokens (b - 1) (q + 1) ≡ Parsed test j r →
    failure ≡ failures.Syntax r → is_mark marks.Semicolon (kind_at tokens r) ≡ false →
    FailsParsing failure (do_at tokens (statement_below tokens calls b) b p)
unfolding do_at
do-unended tokens calls b p body i q test j r failure low found while' tested is no' =
    subst (λ f. FailsParsing f (do_at tokens (statement_below tokens calls b) b p)) (sym is)
    (allowed-yes 2 b p _ low ∙ after-parsed (statement_below tokens calls b (p + 1)) _ body i q (below-statement tokens calls b (p + 1) (omega arith) ∙ found) ∙ cond-yes _ _ _ while' ∙
    after-parsed (parenthesized_at tokens (b - 1) (q + 1)) _ test j r tested ∙ cond-no _ _ _ no')
