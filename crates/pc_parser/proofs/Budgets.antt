-- The parsers with a budget that is one less.
use Rattle.std.proofs.Common.{◌≡◌, refl, sym, ap, ◌∙◌, subst, ℕ, suc, zero, ◌-◌, ◌≤◌, List, arith}
use Rattle.std.specs.Prelude.{Some}
use Rattle.pc_lexer.specs.declared.token.Token.{Token}
use Rattle.pc_syntax.specs.Source.{SourceExpression}
use Rattle.pc_syntax.proofs.ErasureLaws.{expression_forms}
use Rattle.pc_syntax.proofs.UnitLaws.{unit_forms}
use Rattle.pc_parser.specs.declared.calls.Calls.{Calls}
use Rattle.pc_parser.specs.declared.operator.Operator.{Operator}
use Rattle.pc_parser.specs.declared.outcome.Failure.{Failure}
use Rattle.pc_parser.specs.declared.outcome.Failure.TheVariants as failures
use Rattle.pc_parser.specs.Places.{kind_at}
use Rattle.pc_parser.specs.models.Outcome.{ParseOutcome, Parsed, TooHigh, after}
use Rattle.pc_parser.specs.models.Parsing.{FailsParsing}
use Rattle.pc_parser.proofs.Finds.{climb-ends}
use Rattle.pc_parser.specs.models.ExpressionParser.{Inner, operator_from, infixed_at, last_turn, turn, climb, expression_at, below, part, operand}
use Rattle.pc_parser.specs.models.StatementParser.{statement_at, statement_from, statement_below}

-- the parser of expressions below a budget
pub below-expression : (tokens : List Token) (budget level from : ℕ) → 1 ≤ budget →
    below tokens budget level from ≡ expression_at tokens (budget - 1) level from
unfolding below
below-expression tokens zero level from some = absurd (omega arith)
below-expression tokens (suc budget) level from some =
    let same : budget ≡ suc budget - 1 = omega arith in ap (λ n. expression_at tokens n level from) same

-- the parser of statements below a budget
pub below-statement : (tokens : List Token) (calls : Calls) (budget from : ℕ) → 1 ≤ budget →
    statement_below tokens calls budget from ≡ statement_at tokens calls (budget - 1) from
unfolding statement_below
below-statement tokens calls zero from some = absurd (omega arith)
below-statement tokens calls (suc budget) from some =
    let same : budget ≡ suc budget - 1 = omega arith in ap (λ n. statement_at tokens calls n from) same

-- the parser of expressions in terms of that below its budget
pub expression_at-part : (tokens : List Token) (budget level from : ℕ) → expression_at tokens budget level from ≡ part tokens (below tokens budget) budget level from
unfolding expression_at below
expression_at-part tokens zero level from = refl
expression_at-part tokens (suc budget) level from = refl

-- the parser of statements in terms of that below its budget
pub statement_at-from : (tokens : List Token) (calls : Calls) (budget from : ℕ) → statement_at tokens calls budget from ≡ statement_from tokens calls (statement_below tokens calls budget) budget from
unfolding statement_at statement_below
statement_at-from tokens calls zero from = refl
statement_at-from tokens calls (suc budget) from = refl

-- above the level of the whole expression stands an operand
pub part-operand : (tokens : List Token) (inner : Inner) (budget level from : ℕ) → 1 ≤ level → part tokens inner budget level from ≡ operand tokens inner budget level from
unfolding part
part-operand tokens inner budget zero from above = absurd (omega arith)
part-operand tokens inner budget (suc level) from above = refl

-- a failure of the first parser is one of the two after one another
pub fails-after : {A B : Type 0} (failure : Failure) (x : ParseOutcome A) (f : A → ℕ → ℕ → ParseOutcome B) → FailsParsing failure x → FailsParsing failure (after x f)
fails-after failures.Memory x f fails = tt
fails-after (failures.Syntax at) x f fails = ap (λ o. after o f) fails
fails-after (failures.TooNested at) x f fails = ap (λ o. after o f) fails

module _ (tokens : List Token) (inner : Inner) (budget level : ℕ) where
  -- where an operator follows, and a turn is left, the next operand is joined
  pub climb-turned : (turns : ℕ) (tree : SourceExpression) (height at : ℕ) (found : Operator × ℕ) → 1 ≤ turns → operator_from level (kind_at tokens at) ≡ Some found →
      climb tokens inner budget level turns tree height at ≡ after (infixed_at tokens inner budget tree height at found) (climb tokens inner budget level (turns - 1))
  unfolding climb turn
  climb-turned zero tree height at found some is = absurd (omega arith)
  climb-turned (suc turns) tree height at found some is = let same : turns ≡ suc turns - 1 = omega arith in
      ap (turn tokens inner budget (climb tokens inner budget level turns) tree height at) is
      ∙ ap (λ n. after (infixed_at tokens inner budget tree height at found) (climb tokens inner budget level n)) same

  -- what a loop over the operators has so far, one operator later
  pub climb-goes-on : (turns : ℕ) (tree : SourceExpression) (height at : ℕ) (found : Operator × ℕ) (more : SourceExpression) (raised to : ℕ) (whole : ParseOutcome SourceExpression) → 1 ≤ turns →
      operator_from level (kind_at tokens at) ≡ Some found → infixed_at tokens inner budget tree height at found ≡ Parsed more raised to
      → whole ≡ climb tokens inner budget level turns tree height at → whole ≡ climb tokens inner budget level (turns - 1) more raised to
  climb-goes-on turns tree height at found more raised to whole some is joined_is same =
      same ∙ climb-turned turns tree height at found some is ∙ ap (λ o. after o (climb tokens inner budget level (turns - 1))) joined_is

  -- and where the next operand fails
  pub climb-fails : (turns : ℕ) (tree : SourceExpression) (height at : ℕ) (found : Operator × ℕ) (failure : Failure) (whole : ParseOutcome SourceExpression) → 1 ≤ turns →
      operator_from level (kind_at tokens at) ≡ Some found → FailsParsing failure (infixed_at tokens inner budget tree height at found) →
      whole ≡ climb tokens inner budget level turns tree height at → FailsParsing failure whole
  climb-fails turns tree height at found failure whole some is fails same =
      subst (λ o. FailsParsing failure o) (sym (same ∙ climb-turned turns tree height at found some is))
      (fails-after failure (infixed_at tokens inner budget tree height at found) (climb tokens inner budget level (turns - 1)) fails)

  -- where an operator follows, and no turn is left, it is too high
  pub climb-spent : (tree : SourceExpression) (height at : ℕ) (found : Operator × ℕ) → operator_from level (kind_at tokens at) ≡ Some found →
      climb tokens inner budget level 0 tree height at ≡ TooHigh at
  unfolding climb last_turn
  climb-spent tree height at found is = ap (last_turn tokens inner budget tree height at) is

-- the parsers below a budget, and in terms of those
pub ruleset budgets = (below-expression, below-statement, expression_at-part, statement_at-from, part-operand, fails-after, climb-ends, climb-turned, climb-spent)

-- what trees in memory are, and those that are made
pub ruleset tree_forms = (unit_forms, expression_forms)
