-- The parser of calls finds a reading that the budget allows.
use Rattle.std.proofs.Common.{◌≡◌, ap, ◌∙◌, ℕ, zero, suc, ◌+◌, ◌-◌, ◌<◌, ◌≤◌, false, List, length, arith}
use Rattle.std.specs.Prelude.{Option, Some}
use Rattle.pc_lexer.specs.declared.token.Token.{Token}
use Rattle.pc_lexer.specs.declared.mark.Mark.TheVariants as marks
use Rattle.pc_syntax.specs.declared.unit.Target.{Target}
use Rattle.pc_syntax.specs.Source.{SourceExpression}
use Rattle.pc_syntax.specs.Unit.{UnitStatement, Call}
use Rattle.pc_parser.specs.declared.calls.Calls.{Calls}
use Rattle.pc_parser.specs.declared.calls.Calls.TheVariants.{Allowed, Refused}
use Rattle.pc_parser.specs.Places.{kind_at, line_at}
use Rattle.pc_parser.specs.Expressions.{ReadsExpression}
use Rattle.pc_parser.specs.Calls.{ReadsArgumentList, ReadsArguments, ReadsCall}
use Rattle.pc_parser.specs.models.Tests.{is_mark}
use Rattle.pc_parser.specs.models.Outcome.{ParseOutcome, Parsed, after}
use Rattle.pc_parser.specs.models.ExpressionParser.{expression_at}
use Rattle.pc_parser.specs.models.CallParser.{settled_at, argument_list_at, arguments_at, call_at, value_at, value_or_call, right_side_at}
use Rattle.pc_parser.proofs.Tokens.{is_mark-of}
use Rattle.pc_parser.proofs.Names.{called-yes, expression-uncalled}
use Rattle.pc_parser.proofs.Finds.{allowed-yes, expect-yes, after-parsed, cond-yes, cond-no}
use Rattle.pc_parser.proofs.FindsExpressions.{FollowsWhole, follows-paren, follows-comma, finds-expression, expression-positive}
use Rattle.pc_parser.proofs.Starts.{expression-begins}
use Rattle.pc_parser.proofs.Onward.{expression-onward, inside}

module _ (tokens : List Token) where
  argument_list-inside : (p : ℕ) (t : List SourceExpression) (h q : ℕ) → ReadsArgumentList tokens p t h q → p < length tokens
  argument_list-inside p t h q (ReadsArgumentList.last {q = r} {tree = tree} d close') =
      let a = inside tokens r _ close' in let b = expression-onward tokens p tree h r d in omega arith
  argument_list-inside p t h q (ReadsArgumentList.comma {i = i} {q = r} {tree = tree} d comma e) =
      let a = inside tokens r _ comma in let b = expression-onward tokens p tree i r d in omega arith

  -- arguments begin with no `)`
  argument_list-paren : (p : ℕ) (t : List SourceExpression) (h q : ℕ) → ReadsArgumentList tokens p t h q → is_mark marks.RightParen (kind_at tokens p) ≡ false
  argument_list-paren p t h q (ReadsArgumentList.last {q = r} {tree = tree} d close') = (expression-begins tokens p tree h r d).simple.paren_not
  argument_list-paren p t h q (ReadsArgumentList.comma {i = i} {q = r} {tree = tree} d comma e) = (expression-begins tokens p tree i r d).simple.paren_not

  finds-argument_list : (b n p : ℕ) (t : List SourceExpression) (h q : ℕ) → ReadsArgumentList tokens p t h q → length tokens < p + n → h ≤ b → argument_list_at tokens b n p ≡ Parsed t h q
  unfolding argument_list_at
  finds-argument_list b zero p t h q d enough fits = let a = argument_list-inside p t h q d in absurd (omega arith)
  finds-argument_list b (suc n) p t h q (ReadsArgumentList.last {q = r} {tree = tree} d close') enough fits =
      after-parsed (expression_at tokens b 0 p) _ tree h r (finds-expression tokens b p tree h r d (follows-paren (kind_at tokens r) close') fits) ∙
      cond-no _ _ _ (ap (is_mark marks.Comma) close') ∙ expect-yes tokens marks.RightParen r _ close'
  finds-argument_list b (suc n) p t h q (ReadsArgumentList.comma {i = i} {q = r} {j = j} {tree = tree} {rest = rest} d comma e) enough fits =
      let onward = expression-onward tokens p tree i r d in
      after-parsed (expression_at tokens b 0 p) _ tree i r (finds-expression tokens b p tree i r d (follows-comma (kind_at tokens r) comma) (omega arith)) ∙
      cond-yes _ _ _ (is_mark-of marks.Comma (kind_at tokens r) comma) ∙
      after-parsed (argument_list_at tokens b n (r + 1)) _ rest j q (finds-argument_list b n (r + 1) rest j q e (omega arith) (omega arith))

  finds-arguments : (b p : ℕ) (t : List SourceExpression) (h q : ℕ) → ReadsArguments tokens p t h q → h ≤ b → arguments_at tokens b p ≡ Parsed t h q
  unfolding arguments_at
  finds-arguments b p t h q (ReadsArguments.none close') fits = cond-yes _ _ _ (is_mark-of marks.RightParen (kind_at tokens p) close')
  finds-arguments b p t h q (ReadsArguments.some d) fits =
      cond-no _ _ _ (argument_list-paren p t h q d) ∙ finds-argument_list b (length tokens + 1) p t h q d (omega arith) fits

  module _ (b : ℕ) where
    pub finds-call : (line : ℕ) (target : Option Target) (function at p : ℕ) (t : List SourceExpression) (h q : ℕ) → ReadsArguments tokens p t h q → h + 1 ≤ b →
        call_at tokens b line target function at p ≡ Parsed (Call line target function at t) (h + 1) q
    unfolding call_at
    finds-call line target function at p t h q d fits = after-parsed (arguments_at tokens (b - 1) p) _ t h q (finds-arguments (b - 1) p t h q d (omega arith))

    module _ (target : Target) (at from : ℕ) (rest : SourceExpression → (height to : ℕ) → ParseOutcome UnitStatement) where
      -- a call behind `=`
      pub finds-right_call : (calls : Calls) (function : ℕ) (t : List SourceExpression) (h q : ℕ) → calls ≡ Allowed → ReadsCall tokens from function t h q → h + 1 ≤ b →
          right_side_at tokens b calls target at from rest ≡ Parsed (Call target.line (Some target) function (line_at tokens from) t) (h + 1) q
      unfolding right_side_at value_or_call
      finds-right_call Refused function t h q allowed' d fits = cc
      finds-right_call Allowed function t h q allowed' (ReadsCall.call is open' d) fits =
          ap (value_or_call tokens b target (settled_at Allowed (kind_at tokens from) at from) from rest) (called-yes (kind_at tokens from) (kind_at tokens (from + 1)) function is open') ∙
          finds-call target.line (Some target) function (line_at tokens from) (from + 2) t h q d fits

      -- an expression behind `=`
      pub finds-right_value : (calls : Calls) (value : SourceExpression) (j q : ℕ) → ReadsExpression tokens from value j q → FollowsWhole (kind_at tokens q) → j + 1 ≤ b →
          right_side_at tokens b calls target at from rest ≡ rest value j q
      unfolding right_side_at value_or_call value_at
      finds-right_value calls value j q d follows fits =
          let some = expression-positive tokens from value j q d in
          ap (value_or_call tokens b target (settled_at calls (kind_at tokens from) at from) from rest) (expression-uncalled tokens calls from value j q d follows.paren) ∙
          ap (λ o. after o rest) (allowed-yes 2 b (settled_at calls (kind_at tokens from) at from) (expression_at tokens (b - 1) 0 from) (omega arith)) ∙
          after-parsed (expression_at tokens (b - 1) 0 from) rest value j q (finds-expression tokens (b - 1) from value j q d follows (omega arith))
