-- What the loop over the arguments of a call has so far, with what the parser gives of the rest.
use Rattle.std.proofs.Common.{◌≡◌, refl, sym, ap, ◌∙◌, subst, ℕ, zero, suc, ◌+◌, ◌-◌, ◌≤◌, Bool, true, false, List, [], ◌∷◌, ◌++◌, length, arith, cond, append_assoc}
use Rattle.std.specs.Prelude.{max, map}
use Rattle.pc_lexer.specs.declared.token.Token.{Token}
use Rattle.pc_lexer.specs.declared.mark.Mark.TheVariants as marks
use Rattle.pc_syntax.specs.declared.expression.Expr.{Expr}
use Rattle.pc_syntax.specs.Source.{SourceExpression}
use Rattle.pc_syntax.specs.Erasure.{expression_of}
use Rattle.pc_parser.specs.declared.outcome.Failure.{Failure}
use Rattle.pc_parser.specs.Places.{kind_at}
use Rattle.pc_parser.specs.models.Tests.{is_mark}
use Rattle.pc_parser.specs.models.Outcome.{ParseOutcome, Parsed, Unreadable, TooHigh, after, expect}
use Rattle.pc_parser.specs.models.ExpressionParser.{expression_at}
use Rattle.pc_parser.specs.models.CallParser.{argument_list_at}
use Rattle.pc_parser.specs.models.Parsing.{FailsParsing}
use Rattle.pc_parser.proofs.Budgets.{fails-after}

-- the list of one more tree, as the code pushes it
pub pushed : (front list : List Expr) (tree : Expr) → list ≡ front ++ tree ∷ [] → map expression_of list ≡ map expression_of front ++ expression_of tree ∷ []
pushed front list tree is = ap (λ (l : List Expr). map expression_of l) is ∙ mapped front
  where
    mapped : (front : List Expr) → map expression_of (front ++ tree ∷ []) ≡ map expression_of front ++ expression_of tree ∷ []
    mapped [] = refl
    mapped (first ∷ others) = ap (λ (l : List SourceExpression). expression_of first ∷ l) (mapped others)

-- arguments that are read, after those before them
abbrev in_front : List SourceExpression → ℕ → ParseOutcome (List SourceExpression) → ParseOutcome (List SourceExpression)
in_front front height outcome = after outcome (λ rest other to. Parsed (front ++ rest) (max height other) to)

in_front-start : (outcome : ParseOutcome (List SourceExpression)) → outcome ≡ in_front [] 0 outcome
in_front-start (Parsed rest other to) = let same : other ≡ max 0 other = omega arith in ap (λ n. Parsed rest n to) same
in_front-start (Unreadable at) = refl
in_front-start (TooHigh at) = refl

in_front-more : (front : List SourceExpression) (height raised : ℕ) (tree : SourceExpression) (outcome : ParseOutcome (List SourceExpression)) →
    in_front front height (after outcome (λ rest other to. Parsed (tree ∷ rest) (max raised other) to)) ≡ in_front (front ++ tree ∷ []) (max height raised) outcome
in_front-more front height raised tree (Parsed rest other to) =
    let same : max height (max raised other) ≡ max (max height raised) other = omega arith in
    ap (λ n. Parsed (front ++ tree ∷ rest) n to) same ∙ ap (λ (l : List SourceExpression). Parsed l (max (max height raised) other) to) (sym (append_assoc front (tree ∷ []) rest))
in_front-more front height raised tree (Unreadable at) = refl
in_front-more front height raised tree (TooHigh at) = refl

module _ (tokens : List Token) (budget : ℕ) where
  -- the arguments so far, and what goes on after them
  abbrev pub arguments_on : List SourceExpression → (height at turns : ℕ) → ParseOutcome (List SourceExpression)
  arguments_on front height at turns =
      cond (is_mark marks.Comma (kind_at tokens at)) (in_front front height (argument_list_at tokens budget turns (at + 1)))
      (expect tokens marks.RightParen at (Parsed front height (at + 1)))

  -- one argument more
  arguments-turn : (front : List SourceExpression) (height turns p : ℕ) (tree : SourceExpression) (raised at : ℕ) → 1 ≤ turns → expression_at tokens budget 0 p ≡ Parsed tree raised at →
      in_front front height (argument_list_at tokens budget turns p) ≡ arguments_on (front ++ tree ∷ []) (max height raised) at (turns - 1)
  unfolding argument_list_at
  arguments-turn front height zero p tree raised at some is = absurd (omega arith)
  arguments-turn front height (suc turns) p tree raised at some is =
      let less : turns ≡ suc turns - 1 = omega arith in
      ap (λ (o : ParseOutcome SourceExpression). in_front front height (after o (λ t h q.
      cond (is_mark marks.Comma (kind_at tokens q)) (after (argument_list_at tokens budget turns (q + 1)) (λ rest other to. Parsed (t ∷ rest) (max h other) to))
      (expect tokens marks.RightParen q (Parsed (t ∷ []) h (q + 1)))))) is
      ∙ by (is_mark marks.Comma (kind_at tokens at)) (is_mark marks.RightParen (kind_at tokens at))
      ∙ ap (λ n. arguments_on (front ++ tree ∷ []) (max height raised) at n) less
    where
      by : (comma close' : Bool) →
          in_front front height (cond comma (after (argument_list_at tokens budget turns (at + 1)) (λ rest other to. Parsed (tree ∷ rest) (max raised other) to))
          (cond close' (Parsed (tree ∷ []) raised (at + 1)) (Unreadable at)))
          ≡ cond comma (in_front (front ++ tree ∷ []) (max height raised) (argument_list_at tokens budget turns (at + 1)))
          (cond close' (Parsed (front ++ tree ∷ []) (max height raised) (at + 1)) (Unreadable at))
      by true close' = in_front-more front height raised tree (argument_list_at tokens budget turns (at + 1))
      by false true = refl
      by false false = refl

  -- an argument that fails
  arguments-fail : (turns p : ℕ) (failure : Failure) → 1 ≤ turns → FailsParsing failure (expression_at tokens budget 0 p) → FailsParsing failure (argument_list_at tokens budget turns p)
  unfolding argument_list_at
  arguments-fail zero p failure some fails = absurd (omega arith)
  arguments-fail (suc turns) p failure some fails = fails-after failure (expression_at tokens budget 0 p) _ fails

  -- the first argument
  pub arguments-first : (list : List SourceExpression) (p : ℕ) (tree : SourceExpression) (height at : ℕ) → expression_at tokens budget 0 p ≡ Parsed tree height at → list ≡ tree ∷ [] →
      argument_list_at tokens budget (length tokens + 1) p ≡ arguments_on list height at (length tokens)
  arguments-first list p tree height at is list_is =
      let less : length tokens + 1 - 1 ≡ length tokens = omega arith in let high : max 0 height ≡ height = omega arith in
      in_front-start (argument_list_at tokens budget (length tokens + 1) p) ∙ arguments-turn [] 0 (length tokens + 1) p tree height at (omega arith) is
      ∙ ap (λ n. arguments_on (tree ∷ []) (max 0 height) at n) less ∙ ap (λ n. arguments_on (tree ∷ []) n at (length tokens)) high
      ∙ ap (λ (l : List SourceExpression). arguments_on l height at (length tokens)) (sym list_is)

  pub arguments-fail_first : (p : ℕ) (failure : Failure) → FailsParsing failure (expression_at tokens budget 0 p) → FailsParsing failure (argument_list_at tokens budget (length tokens + 1) p)
  arguments-fail_first p failure fails = arguments-fail (length tokens + 1) p failure (omega arith) fails

  module _ (whole : ParseOutcome (List SourceExpression)) (front : List SourceExpression) (height at turns : ℕ) (same : whole ≡ arguments_on front height at turns)
      (comma : is_mark marks.Comma (kind_at tokens at) ≡ true) where
    on_comma : whole ≡ in_front front height (argument_list_at tokens budget turns (at + 1))
    on_comma = same ∙ ap (λ t. cond t (in_front front height (argument_list_at tokens budget turns (at + 1))) (expect tokens marks.RightParen at (Parsed front height (at + 1)))) comma

    -- one argument more in the loop
    pub arguments-more : (list : List SourceExpression) (tree : SourceExpression) (raised to joined : ℕ) → 1 ≤ turns →
        expression_at tokens budget 0 (at + 1) ≡ Parsed tree raised to → list ≡ front ++ tree ∷ [] → joined ≡ max height raised → whole ≡ arguments_on list joined to (turns - 1)
    arguments-more list tree raised to joined some is list_is high =
        on_comma ∙ arguments-turn front height turns (at + 1) tree raised to some is ∙ ap (λ (l : List SourceExpression). arguments_on l (max height raised) to (turns - 1)) (sym list_is)
        ∙ ap (λ n. arguments_on list n to (turns - 1)) (sym high)

    -- a failure of an argument in the loop
    pub arguments-fail_more : (failure : Failure) → 1 ≤ turns → FailsParsing failure (expression_at tokens budget 0 (at + 1)) → FailsParsing failure whole
    arguments-fail_more failure some fails =
        subst (λ (o : ParseOutcome (List SourceExpression)). FailsParsing failure o) (sym on_comma)
        (fails-after failure (argument_list_at tokens budget turns (at + 1)) _ (arguments-fail turns (at + 1) failure some fails))
