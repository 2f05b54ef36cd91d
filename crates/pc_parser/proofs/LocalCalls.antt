-- The parser of calls depends on the tokens up to where it stops.
use Rattle.std.proofs.Common.{◌≡◌, refl, sym, ap, ◌∙◌, subst, ℕ, zero, suc, ◌+◌, ◌-◌, ◌<◌, ◌≤◌, Bool, true, false, List, [], ◌∷◌, length, arith, cond}
use Rattle.std.specs.Prelude.{Option, Some, None, max, nat_le}
use Rattle.pc_lexer.specs.declared.token.Token.{Token}
use Rattle.pc_lexer.specs.declared.token.TokenKind.{TokenKind}
use Rattle.pc_lexer.specs.declared.token.TokenKind.TheVariants as kinds
use Rattle.pc_lexer.specs.declared.mark.Mark.{Mark}
use Rattle.pc_lexer.specs.declared.mark.Mark.TheVariants as marks
use Rattle.pc_syntax.specs.declared.unit.Target.{Target}
use Rattle.pc_syntax.specs.Source.{SourceExpression}
use Rattle.pc_syntax.specs.Unit.{UnitStatement}
use Rattle.pc_parser.specs.declared.calls.Calls.{Calls}
use Rattle.pc_parser.specs.declared.calls.Calls.TheVariants.{Allowed, Refused}
use Rattle.pc_parser.specs.Places.{kind_at, line_at}
use Rattle.pc_parser.specs.models.Tests.{is_mark, symbol_of}
use Rattle.pc_parser.specs.models.Outcome.{ParseOutcome, Parsed, after, expect}
use Rattle.pc_parser.specs.models.ExpressionParser.{lvalue_named, expression_at, below}
use Rattle.pc_parser.specs.models.CallParser.{in_front_of_paren, called, behind_name, settled_at, argument_list_at, arguments_at, call_at, value_at, value_or_call, right_side_at}
use Rattle.pc_parser.proofs.Names.{symbol-is, split-name}
use Rattle.pc_parser.proofs.Local.{Budgets, Budgets-less, Goes, Goes-stop, Goes-from, Goes-after, Goes-cond, Local, parsed, earlier, after-local, allowed-local, allowed_low-local, look, look_is}
use Rattle.pc_parser.proofs.Local.{if-local, expect-local}
use Rattle.pc_parser.proofs.LocalExpressions.{climb-local, choice-local, expression_at-local, below-local}

module _ (k : ℕ) (E : Type 0) (ts ws : List Token) (kinds_agree : (i : ℕ) → i ≤ k → kind_at ws i ≡ kind_at ts i) (lines_agree : (i : ℕ) → i ≤ k → line_at ws i ≡ line_at ts i) where
  -- the combinators at these two lists
  mark_then : {A : Type 0} (mark : Mark) (from : ℕ) {x y : ParseOutcome A} → Local k E 0 (from + 1) x y → Local k E 1 from (expect ts mark from x) (expect ws mark from y)
  mark_then mark from {x} {y} rest = expect-local k E ts ws kinds_agree lines_agree mark from x y rest

  on_mark : {A : Type 0} (mark : Mark) (by from : ℕ) {x y z w : ParseOutcome A} → Local k E by from x y → Local k E by from z w →
      Local k E by from (cond (is_mark mark (kind_at ts from)) x z) (cond (is_mark mark (kind_at ws from)) y w)
  on_mark mark by from {x} {y} {z} {w} one other = if-local k E ts ws kinds_agree lines_agree (is_mark mark) by from x y z w one other

  -- the line of a place that was passed
  behind_line : {A : Type 0} (by from at : ℕ) (F G : ℕ → ParseOutcome A) → from ≤ at → ((line : ℕ) → Local k E by at (F line) (G line)) → Local k E by at (F (line_at ts from)) (G (line_at ws from))
  behind_line by from at F G inside each =
      let here = each (line_at ts from) in
      let onward = Goes-stop by at (F (line_at ts from)) here.goes in
      record { goes = here.goes; carries = λ s e. ap G (lines_agree from (omega arith)) ∙ here.carries s e }

  next : {A B : Type 0} {by more from : ℕ} {x y : ParseOutcome A} (f g : A → ℕ → ℕ → ParseOutcome B) → Local k E by from x y →
      ((tree : A) (height to : ℕ) → from + by ≤ to → Local k E more to (f tree height to) (g tree height to)) → Local k E by from (after x f) (after y g)
  next {by = by} {more = more} {from = from} {x = x} {y = y} f g first rest = after-local k E by more from x y f g first rest

  up : {A : Type 0} (by from less before : ℕ) {x y : ParseOutcome A} → before + less ≤ from + by → before ≤ from → Local k E by from x y → Local k E less before x y
  up by from less before {x} {y} h g local = earlier k E by from less before x y h g local

  done : {A : Type 0} (by from : ℕ) {tree : A} {height to : ℕ} → from + by ≤ to → Local k E by from (Parsed tree height to) (Parsed tree height to)
  done by from {tree} {height} {to} goes = parsed k E by from tree height to goes

  whole : (b c : ℕ) → Budgets E b c → (from : ℕ) → Local k E 1 from (expression_at ts b 0 from) (expression_at ws c 0 from)
  whole b c budgets from = expression_at-local k E ts ws kinds_agree lines_agree b c budgets 0 from

  -- ---- arguments

  module _ (b c : ℕ) (budgets : Budgets E b c) where
    last_argument-local : (tree : SourceExpression) (height at : ℕ) →
        Local k E 1 at (expect ts marks.RightParen at (Parsed (tree ∷ []) height (at + 1))) (expect ws marks.RightParen at (Parsed (tree ∷ []) height (at + 1)))
    last_argument-local tree height at = mark_then marks.RightParen at (done 0 (at + 1) (omega arith))

    argument_list_at-goes : (n from : ℕ) → Goes 1 from (argument_list_at ts b n from)
    unfolding argument_list_at
    argument_list_at-goes zero from = omega arith
    argument_list_at-goes (suc n) from = Goes-after 1 from (expression_at ts b 0 from) _ (whole b c budgets from).goes (λ tree height at onward.
        Goes-cond 0 at (is_mark marks.Comma (kind_at ts at)) _ _
        (Goes-from 1 (at + 1) 0 at _ (omega arith) (omega arith)
        (Goes-after 1 (at + 1) (argument_list_at ts b n (at + 1)) (λ rest other to. Parsed (tree ∷ rest) (max height other) to) (argument_list_at-goes n (at + 1))
        (λ rest other to behind. omega arith)))
        (Goes-from 1 at 0 at _ (omega arith) (omega arith) (last_argument-local tree height at).goes))

    argument_list_at-local : (n m from : ℕ) → k < from + n → k < from + m → Local k E 1 from (argument_list_at ts b n from) (argument_list_at ws c m from)
    unfolding argument_list_at
    argument_list_at-local zero m from little less = record { goes = omega arith; carries = λ s e. absurd (omega arith) }
    argument_list_at-local (suc n) zero from little less =
        let goes = argument_list_at-goes (suc n) from in
        let onward = Goes-stop 1 from (argument_list_at ts b (suc n) from) goes in
        record { goes = goes; carries = λ s e. absurd (omega arith) }
    argument_list_at-local (suc n) (suc m) from little less =
        next _ _ (whole b c budgets from) (λ tree height at onward.
        on_mark marks.Comma 0 at
        (up 1 (at + 1) 0 at (omega arith) (omega arith) (next _ _ (argument_list_at-local n m (at + 1) (omega arith) (omega arith)) (λ rest other to behind. done 0 to (omega arith))))
        (up 1 at 0 at (omega arith) (omega arith) (last_argument-local tree height at)))

    arguments_at-local : k < length ts + 1 → k < length ws + 1 → (from : ℕ) → Local k E 1 from (arguments_at ts b from) (arguments_at ws c from)
    unfolding arguments_at
    arguments_at-local few fewer from =
        on_mark marks.RightParen 1 from (done 1 from (omega arith)) (argument_list_at-local (length ts + 1) (length ws + 1) from (omega arith) (omega arith))

  -- ---- an expression that begins with a name looks at the token after it

  named-goes : (e p symbol : ℕ) → kind_at ts p ≡ Some (kinds.Name symbol) → 1 ≤ e → Goes 0 (p + 1) (expression_at ts e 0 p)
  unfolding lvalue_named
  named-goes e p symbol is some = subst (λ o. Goes 0 (p + 1) o) (sym (split-name ts e p symbol is some))
      (Goes-after 0 (p + 1) _ _ (Goes-after 0 (p + 1) _ _ (Goes-after 0 (p + 1) (lvalue_named ts (below ts e) e symbol p) _ lvalue (λ lvalue height to onward. omega arith)) (λ tree height to onward.
      (climb-local k E ts ts (λ i low. refl) (λ i low. refl) _ _ e e same (below-local k E ts ts (λ i low. refl) (λ i low. refl) e e same) 1 e e tree height to same).goes)) (λ tree height to onward.
      (choice-local k E ts ts (λ i low. refl) (λ i low. refl) _ _ e e same (below-local k E ts ts (λ i low. refl) (λ i low. refl) e e same) tree height to).goes))
    where
      same : Budgets E e e
      same = record { low = omega arith; same = λ e'. refl }

      lvalue : Goes 0 (p + 1) (lvalue_named ts (below ts e) e symbol p)
      lvalue = Goes-cond 0 (p + 1) (is_mark marks.LeftBracket (kind_at ts (p + 1))) _ _
          (Goes-cond 0 (p + 1) (nat_le 2 e) _ _
          (Goes-from 1 (p + 2) 0 (p + 1) _ (omega arith) (omega arith)
          (Goes-after 1 (p + 2) (below ts e 0 (p + 2)) _ (below-local k E ts ts (λ i low. refl) (λ i low. refl) e e same 0 (p + 2)).goes (λ index height to onward.
          Goes-cond 0 to (is_mark marks.RightBracket (kind_at ts to)) _ _ (omega arith) (omega arith))))
          (omega arith)) (omega arith)

  -- ---- calls

  module _ (b c : ℕ) (budgets : Budgets E b c) (few : k < length ts + 1) (fewer : k < length ws + 1) where
    pub call_at-local : (line : ℕ) (target : Option Target) (function at from : ℕ) → Local k E 1 from (call_at ts b line target function at from) (call_at ws c line target function at from)
    unfolding call_at
    call_at-local line target function at from = next _ _ (arguments_at-local (b - 1) (c - 1) (Budgets-less budgets) few fewer from) (λ arguments height to onward. done 0 to (omega arith))

    module _ (target : Target) (at from : ℕ) (onward' : from ≡ at + 1) (f g : SourceExpression → (height to : ℕ) → ParseOutcome UnitStatement)
        (each : (value : SourceExpression) (height to : ℕ) → at ≤ to → Local k E 0 to (f value height to) (g value height to)) where
      -- no call
      value-local : (settled : ℕ) → at ≤ settled → settled ≤ from → Local k E 0 settled (value_or_call ts b target settled from f None) (value_or_call ws c target settled from g None)
      unfolding value_or_call value_at
      value-local settled inside low = next _ _
          (allowed-local k E 2 b c settled 0 settled _ _ budgets (omega arith)
          (up 1 from 0 settled (omega arith) (omega arith) (whole (b - 1) (c - 1) (Budgets-less budgets) from))) (λ value height to onward.
          each value height to (omega arith))

      -- a name, which `(` may follow
      named-local : (symbol : ℕ) → kind_at ts from ≡ Some (kinds.Name symbol) →
          Local k E 0 (from + 1) (value_or_call ts b target (from + 1) from f (in_front_of_paren (Some symbol) (kind_at ts (from + 1))))
          (value_or_call ws c target (from + 1) from g (in_front_of_paren (Some symbol) (kind_at ws (from + 1))))
      unfolding value_or_call value_at
      named-local symbol is =
          look k E ts ws kinds_agree lines_agree 0 (from + 1) (λ kind. value_or_call ts b target (from + 1) from f (in_front_of_paren (Some symbol) kind))
          (λ kind. value_or_call ws c target (from + 1) from g (in_front_of_paren (Some symbol) kind)) (λ kind. chosen (is_mark marks.LeftParen kind))
        where
          chosen : (t : Bool) → Local k E 0 (from + 1) (value_or_call ts b target (from + 1) from f (cond t (Some symbol) None))
              (value_or_call ws c target (from + 1) from g (cond t (Some symbol) None))
          chosen true =
              behind_line 0 from (from + 1) (λ line. call_at ts b target.line (Some target) symbol line (from + 2)) (λ line. call_at ws c target.line (Some target) symbol line (from + 2))
              (omega arith) (λ line. up 1 (from + 2) 0 (from + 1) (omega arith) (omega arith) (call_at-local target.line (Some target) symbol line (from + 2)))
          chosen false = next _ _
              (allowed_low-local k E 2 b c (from + 1) 0 (from + 1) _ _ budgets (omega arith) (λ low.
              record { goes = named-goes (b - 1) from symbol is (omega arith); carries = (whole (b - 1) (c - 1) (Budgets-less budgets) from).carries })) (λ value height to onward.
              each value height to (omega arith))

      pub right_side_at-local : (calls : Calls) → Local k E 0 at (right_side_at ts b calls target at from f) (right_side_at ws c calls target at from g)
      unfolding right_side_at called settled_at
      right_side_at-local Refused = value-local at (omega arith) (omega arith)
      right_side_at-local Allowed =
          up 0 from 0 at (omega arith) (omega arith)
          (look_is k E ts ws kinds_agree lines_agree 0 from
          (λ kind. value_or_call ts b target (behind_name (symbol_of kind) from) from f (in_front_of_paren (symbol_of kind) (kind_at ts (from + 1))))
          (λ kind. value_or_call ws c target (behind_name (symbol_of kind) from) from g (in_front_of_paren (symbol_of kind) (kind_at ws (from + 1)))) (λ kind is. by kind is (symbol_of kind) refl))
        where
          by : (kind : Option TokenKind) → kind_at ts from ≡ kind → (symbol : Option ℕ) → symbol_of kind ≡ symbol →
              Local k E 0 from (value_or_call ts b target (behind_name symbol from) from f (in_front_of_paren symbol (kind_at ts (from + 1))))
              (value_or_call ws c target (behind_name symbol from) from g (in_front_of_paren symbol (kind_at ws (from + 1))))
          by kind is None found = value-local from (omega arith) (omega arith)
          by kind is (Some symbol) found = up 0 (from + 1) 0 from (omega arith) (omega arith) (named-local symbol (is ∙ symbol-is kind symbol found))
