-- The parser of expressions depends on the tokens up to where it stops.
use Rattle.std.proofs.Common.{◌≡◌, refl, sym, ℕ, ℤ, zero, suc, ◌+◌, ◌≤◌, Bool, true, false, List, arith, cond}
use Rattle.std.specs.Prelude.{Option, Some, None, max}
use Rattle.pc_lexer.specs.declared.token.Token.{Token}
use Rattle.pc_lexer.specs.declared.token.TokenKind.{TokenKind}
use Rattle.pc_lexer.specs.declared.token.TokenKind.TheVariants as kinds
use Rattle.pc_lexer.specs.declared.mark.Mark.TheVariants as marks
use Rattle.pc_lexer.specs.declared.keyword.Keyword.TheVariants as keys
use Rattle.pc_syntax.specs.declared.operator.UnaryOp.{UnaryOp}
use Rattle.pc_syntax.specs.Source.{SourceExpression, Input, Conditional}
use Rattle.pc_parser.specs.declared.operator.Operator.{Operator}
use Rattle.pc_parser.specs.Places.{kind_at, line_at}
use Rattle.pc_parser.specs.models.Tests.{is_mark, mark_is, key_is}
use Rattle.pc_parser.specs.Operators.{infixed}
use Rattle.pc_parser.specs.Statements.{Lvalue}
use Rattle.pc_parser.specs.models.Outcome.{ParseOutcome, Parsed, Unreadable, TooHigh, after, allowed, expect}
use Rattle.pc_parser.specs.models.ExpressionParser.{Inner, operator_from, sign_of, lvalue_named, literal_at, name_at, grouped, input, primary_on, signed, unary_on, unary_at, infixed_at}
use Rattle.pc_parser.specs.models.ExpressionParser.{last_turn, turn, climb, choice, operand, part, expression_at, below}
use Rattle.pc_parser.proofs.Local.{Budgets, Local, parsed, unreadable, too_high, earlier, after-local, allowed-local, look, look_line, if-local, expect-local}

-- the lvalue at a name, with the lines of the name and of the bracket
abbrev lvalue_with : List Token → Inner → (budget symbol from line bracket : ℕ) → ParseOutcome Lvalue
lvalue_with tokens inner budget symbol from line bracket =
    cond (is_mark marks.LeftBracket (kind_at tokens (from + 1)))
    (allowed 2 budget (from + 1) (after (inner 0 (from + 2)) (λ index height to.
    expect tokens marks.RightBracket to (Parsed record { symbol = symbol; line = line; index = Some index; bracket = bracket } (height + 1) (to + 1)))))
    (Parsed record { symbol = symbol; line = line; index = None; bracket = line } 0 (from + 1))

abbrev input_with : List Token → Inner → (budget from line : ℕ) → ParseOutcome SourceExpression
input_with tokens inner budget from line = allowed 1 budget from
    (expect tokens marks.LeftParen (from + 1)
    (expect tokens marks.RightParen (from + 2)
    (Parsed (Input line) 1 (from + 3))))

abbrev infixed_with : List Token → Inner → ℕ → SourceExpression → (height at : ℕ) → Operator × ℕ → (line : ℕ) → ParseOutcome SourceExpression
infixed_with tokens inner budget left height at found line = allowed (height + 1) budget at (after (inner (found.1 + 1) (at + 1)) (λ right other to.
    Parsed (infixed found.0 line left right) (max height other + 1) to))

module _ (k : ℕ) (E : Type 0) (ts ws : List Token) (kinds_agree : (i : ℕ) → i ≤ k → kind_at ws i ≡ kind_at ts i)
    (lines_agree : (i : ℕ) → i ≤ k → line_at ws i ≡ line_at ts i) (inner other : Inner) (b c : ℕ) (budgets : Budgets E b c)
    (inners : (level from : ℕ) → Local k E 1 from (inner level from) (other level from)) where
  pub lvalue_named-local : (symbol from : ℕ) → Local k E 1 from (lvalue_named ts inner b symbol from) (lvalue_named ws other c symbol from)
  unfolding lvalue_named
  lvalue_named-local symbol from =
      look_line k E ts ws kinds_agree lines_agree 1 from (λ line. lvalue_with ts inner b symbol from line (line_at ts (from + 1)))
      (λ line. lvalue_with ws other c symbol from line (line_at ws (from + 1))) (λ line.
      earlier k E 0 (from + 1) 1 from _ _ (omega arith) (omega arith)
      (look_line k E ts ws kinds_agree lines_agree 0 (from + 1) (λ bracket. lvalue_with ts inner b symbol from line bracket) (λ bracket. lvalue_with ws other c symbol from line bracket) (λ bracket.
      if-local k E ts ws kinds_agree lines_agree (is_mark marks.LeftBracket) 0 (from + 1) _ _ _ _
      (allowed-local k E 2 b c (from + 1) 0 (from + 1) _ _ budgets (omega arith)
      (earlier k E 1 (from + 2) 0 (from + 1) _ _ (omega arith) (omega arith)
      (after-local k E 1 1 (from + 2) (inner 0 (from + 2)) (other 0 (from + 2)) _ _ (inners 0 (from + 2)) (λ index height to onward.
      expect-local k E ts ws kinds_agree lines_agree marks.RightBracket to _ _ (parsed k E 0 (to + 1) _ (height + 1) (to + 1) (omega arith))))))
      (parsed k E 0 (from + 1) _ 0 (from + 1) (omega arith)))))

  pub grouped-local : (from : ℕ) → Local k E 1 from (grouped ts inner b from) (grouped ws other c from)
  unfolding grouped
  grouped-local from =
      allowed-local k E 2 b c from 1 from _ _ budgets (omega arith)
      (earlier k E 1 (from + 1) 1 from _ _ (omega arith) (omega arith)
      (after-local k E 1 1 (from + 1) (inner 0 (from + 1)) (other 0 (from + 1)) _ _ (inners 0 (from + 1)) (λ tree height to onward.
      expect-local k E ts ws kinds_agree lines_agree marks.RightParen to _ _ (parsed k E 0 (to + 1) tree (height + 1) (to + 1) (omega arith)))))

  pub input-local : (from : ℕ) → Local k E 1 from (input ts inner b from) (input ws other c from)
  unfolding input
  input-local from =
      look_line k E ts ws kinds_agree lines_agree 1 from (input_with ts inner b from) (input_with ws other c from) (λ line.
      allowed-local k E 1 b c from 1 from _ _ budgets (omega arith)
      (earlier k E 1 (from + 1) 1 from _ _ (omega arith) (omega arith)
      (expect-local k E ts ws kinds_agree lines_agree marks.LeftParen (from + 1) _ _
      (earlier k E 1 (from + 2) 0 (from + 1 + 1) _ _ (omega arith) (omega arith)
      (expect-local k E ts ws kinds_agree lines_agree marks.RightParen (from + 2) _ _ (parsed k E 0 (from + 2 + 1) (Input line) 1 (from + 3) (omega arith)))))))

  pub literal_at-local : (value : ℤ) (from : ℕ) → Local k E 1 from (literal_at ts inner b value from) (literal_at ws other c value from)
  unfolding literal_at
  literal_at-local value from = allowed-local k E 1 b c from 1 from _ _ budgets (omega arith) (parsed k E 1 from _ 1 (from + 1) (omega arith))

  pub name_at-local : (symbol from : ℕ) → Local k E 1 from (name_at ts inner b symbol from) (name_at ws other c symbol from)
  unfolding name_at
  name_at-local symbol from = allowed-local k E 1 b c from 1 from _ _ budgets (omega arith)
      (after-local k E 1 0 from (lvalue_named ts inner b symbol from) (lvalue_named ws other c symbol from) _ _ (lvalue_named-local symbol from)
      (λ lvalue height to onward. parsed k E 0 to _ _ to (omega arith)))

  pub primary_on-local : (kind : Option TokenKind) (from : ℕ) → Local k E 1 from (primary_on ts inner b kind from) (primary_on ws other c kind from)
  unfolding primary_on
  primary_on-local (Some (kinds.Number value)) from = literal_at-local value from
  primary_on-local (Some (kinds.Name symbol)) from = name_at-local symbol from
  primary_on-local (Some (kinds.Key key)) from = chosen (key_is key keys.Read)
    where
      chosen : (t : Bool) → Local k E 1 from (cond t (input ts inner b from) (Unreadable from)) (cond t (input ws other c from) (Unreadable from))
      chosen true = input-local from
      chosen false = unreadable k E 1 from from (omega arith)
  primary_on-local (Some (kinds.Mark mark)) from = chosen (mark_is mark marks.LeftParen)
    where
      chosen : (t : Bool) → Local k E 1 from (cond t (grouped ts inner b from) (Unreadable from)) (cond t (grouped ws other c from) (Unreadable from))
      chosen true = grouped-local from
      chosen false = unreadable k E 1 from from (omega arith)
  primary_on-local None from = unreadable k E 1 from from (omega arith)

  pub signed-local : (sign : Option UnaryOp) (from : ℕ) → Local k E 1 from (signed ts inner b sign from) (signed ws other c sign from)
  unfolding signed
  signed-local sign from = allowed-local k E 2 b c from 1 from _ _ budgets (omega arith)
      (earlier k E 1 (from + 1) 1 from _ _ (omega arith) (omega arith)
      (after-local k E 1 0 (from + 1) (inner 11 (from + 1)) (other 11 (from + 1)) _ _ (inners 11 (from + 1)) (λ tree height to onward. parsed k E 0 to _ _ to (omega arith))))

  pub unary_at-local : (from : ℕ) → Local k E 1 from (unary_at ts inner b from) (unary_at ws other c from)
  unfolding unary_at unary_on
  unary_at-local from = look k E ts ws kinds_agree lines_agree 1 from (λ kind. unary_on ts inner b (sign_of kind) from) (λ kind. unary_on ws other c (sign_of kind) from) (λ kind. on (sign_of kind))
    where
      on : (sign : Option (Option UnaryOp)) → Local k E 1 from (unary_on ts inner b sign from) (unary_on ws other c sign from)
      on (Some sign) = signed-local sign from
      on None = look k E ts ws kinds_agree lines_agree 1 from (λ kind. primary_on ts inner b kind from) (λ kind. primary_on ws other c kind from) (λ kind. primary_on-local kind from)

  pub infixed_at-local : (left : SourceExpression) (height at : ℕ) (found : Operator × ℕ) → Local k E 0 at (infixed_at ts inner b left height at found) (infixed_at ws other c left height at found)
  unfolding infixed_at
  infixed_at-local left height at found =
      look_line k E ts ws kinds_agree lines_agree 0 at (infixed_with ts inner b left height at found) (infixed_with ws other c left height at found) (λ line.
      allowed-local k E (height + 1) b c at 0 at _ _ budgets (omega arith)
      (earlier k E 1 (at + 1) 0 at _ _ (omega arith) (omega arith)
      (after-local k E 1 0 (at + 1) (inner (found.1 + 1) (at + 1)) (other (found.1 + 1) (at + 1)) _ _ (inners (found.1 + 1) (at + 1))
      (λ right height' to onward. parsed k E 0 to _ _ to (omega arith)))))

  abbrev choice_on : List Token → Inner → ℕ → SourceExpression → (height at : ℕ) → ParseOutcome SourceExpression
  choice_on tokens within budget test height at = allowed (height + 1) budget at (after (within 0 (at + 1)) (λ one i q.
      expect tokens marks.Colon q (after (within 0 (q + 1)) (λ other j to.
      Parsed (Conditional test one other) (max height (max i j) + 1) to))))

  pub choice-local : (test : SourceExpression) (height at : ℕ) → Local k E 0 at (choice ts inner b test height at) (choice ws other c test height at)
  unfolding choice
  choice-local test height at =
      if-local k E ts ws kinds_agree lines_agree (is_mark marks.Question) 0 at (choice_on ts inner b test height at) (choice_on ws other c test height at)
      (Parsed test height at) (Parsed test height at)
      (allowed-local k E (height + 1) b c at 0 at _ _ budgets (omega arith)
      (earlier k E 1 (at + 1) 0 at _ _ (omega arith) (omega arith)
      (after-local k E 1 1 (at + 1) (inner 0 (at + 1)) (other 0 (at + 1)) _ _ (inners 0 (at + 1)) (λ one i q onward.
      expect-local k E ts ws kinds_agree lines_agree marks.Colon q _ _
      (earlier k E 1 (q + 1) 0 (q + 1) _ _ (omega arith) (omega arith)
      (after-local k E 1 0 (q + 1) (inner 0 (q + 1)) (other 0 (q + 1)) _ _ (inners 0 (q + 1)) (λ last j to behind. parsed k E 0 to _ _ to (omega arith))))))))
      (parsed k E 0 at test height at (omega arith))

  pub climb-local : (level n m : ℕ) (left : SourceExpression) (height at : ℕ) → Budgets E n m →
      Local k E 0 at (climb ts inner b level n left height at) (climb ws other c level m left height at)
  unfolding climb last_turn turn
  climb-local level zero zero left height at turns =
      look k E ts ws kinds_agree lines_agree 0 at (λ kind. last_turn ts inner b left height at (operator_from level kind))
      (λ kind. last_turn ws other c left height at (operator_from level kind)) (λ kind. on (operator_from level kind))
    where
      on : (found : Option (Operator × ℕ)) → Local k E 0 at (last_turn ts inner b left height at found) (last_turn ws other c left height at found)
      on None = parsed k E 0 at left height at (omega arith)
      on (Some found) = too_high k E 0 at at (omega arith)
  climb-local level zero (suc m) left height at turns =
      look k E ts ws kinds_agree lines_agree 0 at (λ kind. last_turn ts inner b left height at (operator_from level kind))
      (λ kind. turn ws other c (climb ws other c level m) left height at (operator_from level kind)) (λ kind. on (operator_from level kind))
    where
      on : (found : Option (Operator × ℕ)) → Local k E 0 at (last_turn ts inner b left height at found) (turn ws other c (climb ws other c level m) left height at found)
      on None = parsed k E 0 at left height at (omega arith)
      on (Some found) = record { goes = omega arith; carries = λ s e. let same = turns.same (e refl) in absurd (omega arith) }
  climb-local level (suc n) zero left height at turns = let low = turns.low in absurd (omega arith)
  climb-local level (suc n) (suc m) left height at turns =
      look k E ts ws kinds_agree lines_agree 0 at (λ kind. turn ts inner b (climb ts inner b level n) left height at (operator_from level kind))
      (λ kind. turn ws other c (climb ws other c level m) left height at (operator_from level kind))
      (λ kind. turned left height at (climb ts inner b level n) (climb ws other c level m) (λ left' height' at'. climb-local level n m left' height' at' (fewer n m turns)) (operator_from level kind))
    where
      fewer : (n m : ℕ) → Budgets E (suc n) (suc m) → Budgets E n m
      fewer n m turns = let low = turns.low in record { low = omega arith; same = λ e. let same = turns.same e in omega arith }

      turned : (left : SourceExpression) (height at : ℕ) (f g : SourceExpression → (height at : ℕ) → ParseOutcome SourceExpression) →
          ((left' : SourceExpression) (height' at' : ℕ) → Local k E 0 at' (f left' height' at') (g left' height' at')) →
          (found : Option (Operator × ℕ)) → Local k E 0 at (turn ts inner b f left height at found) (turn ws other c g left height at found)
      turned left height at f g next None = parsed k E 0 at left height at (omega arith)
      turned left height at f g next (Some found) =
          after-local k E 0 0 at (infixed_at ts inner b left height at found) (infixed_at ws other c left height at found) f g (infixed_at-local left height at found)
          (λ left' height' at' onward. next left' height' at')

  pub operand-local : (level from : ℕ) → Local k E 1 from (operand ts inner b level from) (operand ws other c level from)
  unfolding operand
  operand-local level from =
      after-local k E 1 0 from (unary_at ts inner b from) (unary_at ws other c from) _ _ (unary_at-local from)
      (λ tree height to onward. climb-local level b c tree height to budgets)

  pub part-local : (level from : ℕ) → Local k E 1 from (part ts inner b level from) (part ws other c level from)
  unfolding part
  part-local zero from = after-local k E 1 0 from (operand ts inner b 1 from) (operand ws other c 1 from) _ _ (operand-local 1 from) (λ tree height to onward. choice-local tree height to)
  part-local (suc level) from = operand-local (suc level) from

module _ (k : ℕ) (E : Type 0) (ts ws : List Token) (kinds_agree : (i : ℕ) → i ≤ k → kind_at ws i ≡ kind_at ts i) (lines_agree : (i : ℕ) → i ≤ k → line_at ws i ≡ line_at ts i) where
  -- where no height is left, nothing goes on that is not too high
  high-local : (b c : ℕ) (y : Inner) → Budgets E 0 c → ((level from : ℕ) → c ≡ 0 → y level from ≡ TooHigh from) → (level from : ℕ) → Local k E 1 from (TooHigh from) (y level from)
  high-local b c y budgets none level from = record { goes = omega arith; carries = λ s e. none level from (sym (budgets.same (e refl))) }

  pub expression_at-local : (b c : ℕ) → Budgets E b c → (level from : ℕ) → Local k E 1 from (expression_at ts b level from) (expression_at ws c level from)
  unfolding expression_at
  expression_at-local zero zero budgets level from =
      part-local k E ts ws kinds_agree lines_agree _ _ 0 0 budgets (λ level' from'. too_high k E 1 from' from' (omega arith)) level from
  expression_at-local zero (suc c) budgets level from =
      part-local k E ts ws kinds_agree lines_agree _ _ 0 (suc c) budgets (λ level' from'. high-local 0 (suc c) (expression_at ws c) budgets (λ level'' from'' none. cc) level' from') level from
  expression_at-local (suc b) zero budgets level from = let low = budgets.low in absurd (omega arith)
  expression_at-local (suc b) (suc c) budgets level from =
      part-local k E ts ws kinds_agree lines_agree _ _ (suc b) (suc c) budgets (λ level' from'. expression_at-local b c (fewer b c budgets) level' from') level from
    where
      fewer : (n m : ℕ) → Budgets E (suc n) (suc m) → Budgets E n m
      fewer n m turns = let low = turns.low in record { low = omega arith; same = λ e. let same = turns.same e in omega arith }

  pub below-local : (b c : ℕ) → Budgets E b c → (level from : ℕ) → Local k E 1 from (below ts b level from) (below ws c level from)
  unfolding below
  below-local zero zero budgets level from = too_high k E 1 from from (omega arith)
  below-local zero (suc c) budgets level from = high-local 0 (suc c) (expression_at ws c) budgets (λ level' from' none. cc) level from
  below-local (suc b) zero budgets level from = let low = budgets.low in absurd (omega arith)
  below-local (suc b) (suc c) budgets level from = let low = budgets.low in
      expression_at-local b c (record { low = omega arith; same = λ e. let same = budgets.same e in omega arith }) level from
