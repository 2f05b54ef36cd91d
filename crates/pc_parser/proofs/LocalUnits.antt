-- The parser of translation units depends on the tokens up to where it stops.
use Rattle.std.proofs.Common.{◌≡◌, ap, ◌∙◌, ℕ, zero, suc, ◌+◌, ◌<◌, ◌≤◌, List, [], ◌∷◌, length, arith, cond}
use Rattle.std.specs.Prelude.{Option, Some, None}
use Rattle.pc_lexer.specs.declared.token.Token.{Token}
use Rattle.pc_lexer.specs.declared.token.TokenKind.{TokenKind}
use Rattle.pc_lexer.specs.declared.mark.Mark.{Mark}
use Rattle.pc_lexer.specs.declared.mark.Mark.TheVariants as marks
use Rattle.pc_lexer.specs.declared.keyword.Keyword.{Keyword}
use Rattle.pc_lexer.specs.declared.keyword.Keyword.TheVariants as keys
use Rattle.pc_syntax.specs.declared.unit.Param.{Param}
use Rattle.pc_syntax.specs.Unit.{TranslationUnit, UnitFunction}
use Rattle.pc_parser.specs.declared.calls.Calls.TheVariants.{Allowed}
use Rattle.pc_parser.specs.Places.{kind_at, line_at}
use Rattle.pc_parser.specs.models.Tests.{is_mark, is_key, symbol_of}
use Rattle.pc_parser.specs.models.Outcome.{ParseOutcome, Parsed, after, expect, expect_key}
use Rattle.pc_parser.specs.models.StatementParser.{block_at, statement_below}
use Rattle.pc_parser.specs.models.UnitParser.{function_with, parameter_on, parameter_at, parameter_list_at, parameters_at, function_at, main_alone, functions_on, functions_at, unit_at}
use Rattle.pc_parser.proofs.Local.{Budgets, Goes, Goes-stop, Goes-from, Goes-after, Goes-cond, Local, parsed, unreadable, earlier, after-local, look, if-local, expect-local, expect_key-local}
use Rattle.pc_parser.proofs.LocalStatements.{block_at-local, statement_below-local, main_at-local}

module _ (k : ℕ) (E : Type 0) (ts ws : List Token) (kinds_agree : (i : ℕ) → i ≤ k → kind_at ws i ≡ kind_at ts i) (lines_agree : (i : ℕ) → i ≤ k → line_at ws i ≡ line_at ts i) where
  -- the combinators at these two lists
  mark_then : {A : Type 0} (mark : Mark) (from : ℕ) {x y : ParseOutcome A} → Local k E 0 (from + 1) x y → Local k E 1 from (expect ts mark from x) (expect ws mark from y)
  mark_then mark from {x} {y} rest = expect-local k E ts ws kinds_agree lines_agree mark from x y rest

  key_then : {A : Type 0} (key : Keyword) (from : ℕ) {x y : ParseOutcome A} → Local k E 0 (from + 1) x y → Local k E 1 from (expect_key ts key from x) (expect_key ws key from y)
  key_then key from {x} {y} rest = expect_key-local k E ts ws kinds_agree lines_agree key from x y rest

  on_mark : {A : Type 0} (mark : Mark) (by from : ℕ) {x y z w : ParseOutcome A} → Local k E by from x y → Local k E by from z w →
      Local k E by from (cond (is_mark mark (kind_at ts from)) x z) (cond (is_mark mark (kind_at ws from)) y w)
  on_mark mark by from {x} {y} {z} {w} one other = if-local k E ts ws kinds_agree lines_agree (is_mark mark) by from x y z w one other

  on_key : {A : Type 0} (key : Keyword) (by from : ℕ) {x y z w : ParseOutcome A} → Local k E by from x y → Local k E by from z w →
      Local k E by from (cond (is_key key (kind_at ts from)) x z) (cond (is_key key (kind_at ws from)) y w)
  on_key key by from {x} {y} {z} {w} one other = if-local k E ts ws kinds_agree lines_agree (is_key key) by from x y z w one other

  by_kind : {A : Type 0} (by from : ℕ) (F G : Option TokenKind → ParseOutcome A) → ((kind : Option TokenKind) → Local k E by from (F kind) (G kind)) →
      Local k E by from (F (kind_at ts from)) (G (kind_at ws from))
  by_kind by from F G each = look k E ts ws kinds_agree lines_agree by from F G each

  -- the line of a place that was passed
  behind_line : {A : Type 0} (by from at : ℕ) (F G : ℕ → ParseOutcome A) → from ≤ at → ((line : ℕ) → Local k E by at (F line) (G line)) → Local k E by at (F (line_at ts from)) (G (line_at ws from))
  behind_line by from at F G inside each =
      let here = each (line_at ts from) in
      let onward = Goes-stop by at (F (line_at ts from)) here.goes in
      record { goes = here.goes; carries = λ s e. ap G (lines_agree from (omega arith)) ∙ here.carries s e }

  next : {A B : Type 0} {by more from : ℕ} {x y : ParseOutcome A} (f g : A → ℕ → ℕ → ParseOutcome B) → Local k E by from x y →
      ((tree : A) (height to : ℕ) → from + by ≤ to → Local k E more to (f tree height to) (g tree height to)) → Local k E by from (after x f) (after y g)
  next {by = by} {more = more} {from = from} {x = x} {y = y} f g first rest = after-local k E by more from x y f g first rest

  up : {A : Type 0} (by from less before : ℕ) {x y : ParseOutcome A} → before + less ≤ from + by → before ≤ from → Local k E by from x y → Local k E less before x y
  up by from less before {x} {y} h g local = earlier k E by from less before x y h g local

  done : {A : Type 0} (by from : ℕ) {tree : A} {height to : ℕ} → from + by ≤ to → Local k E by from (Parsed tree height to) (Parsed tree height to)
  done by from {tree} {height} {to} goes = parsed k E by from tree height to goes

  -- ---- parameters

  abbrev parameter_with : (symbol from line : ℕ) → ParseOutcome Param
  parameter_with symbol from line = Parsed (record { symbol = symbol; line = line }) 0 (from + 2)

  parameter_at-local : (from : ℕ) → Local k E 1 from (parameter_at ts from) (parameter_at ws from)
  unfolding parameter_at parameter_on
  parameter_at-local from =
      key_then keys.Int from
      (by_kind 0 (from + 1) (λ kind. parameter_on ts (symbol_of kind) from) (λ kind. parameter_on ws (symbol_of kind) from) (λ kind. by (symbol_of kind)))
    where
      by : (symbol : Option ℕ) → Local k E 0 (from + 1) (parameter_on ts symbol from) (parameter_on ws symbol from)
      by (Some symbol) = behind_line 0 (from + 1) (from + 1) (parameter_with symbol from) (parameter_with symbol from) (omega arith) (λ line. done 0 (from + 1) (omega arith))
      by None = unreadable k E 0 (from + 1) (from + 1) (omega arith)

  last_parameter-local : (parameter : Param) (at : ℕ) →
      Local k E 1 at (expect ts marks.RightParen at (Parsed (parameter ∷ []) 0 (at + 1))) (expect ws marks.RightParen at (Parsed (parameter ∷ []) 0 (at + 1)))
  last_parameter-local parameter at = mark_then marks.RightParen at (done 0 (at + 1) (omega arith))

  parameter_list_at-goes : (n from : ℕ) → Goes 1 from (parameter_list_at ts n from)
  unfolding parameter_list_at
  parameter_list_at-goes zero from = omega arith
  parameter_list_at-goes (suc n) from = Goes-after 1 from (parameter_at ts from) _ (parameter_at-local from).goes (λ parameter height at onward.
      Goes-cond 0 at (is_mark marks.Comma (kind_at ts at)) _ _
      (Goes-from 1 (at + 1) 0 at _ (omega arith) (omega arith)
      (Goes-after 1 (at + 1) (parameter_list_at ts n (at + 1)) (λ rest other to. Parsed (parameter ∷ rest) 0 to) (parameter_list_at-goes n (at + 1)) (λ rest other to behind. omega arith)))
      (Goes-from 1 at 0 at _ (omega arith) (omega arith) (last_parameter-local parameter at).goes))

  parameter_list_at-local : (n m from : ℕ) → k < from + n → k < from + m → Local k E 1 from (parameter_list_at ts n from) (parameter_list_at ws m from)
  unfolding parameter_list_at
  parameter_list_at-local zero m from few fewer = record { goes = omega arith; carries = λ s e. absurd (omega arith) }
  parameter_list_at-local (suc n) zero from few fewer =
      let goes = parameter_list_at-goes (suc n) from in
      let onward = Goes-stop 1 from (parameter_list_at ts (suc n) from) goes in
      record { goes = goes; carries = λ s e. absurd (omega arith) }
  parameter_list_at-local (suc n) (suc m) from few fewer =
      next _ _ (parameter_at-local from) (λ parameter height at onward.
      on_mark marks.Comma 0 at
      (up 1 (at + 1) 0 at (omega arith) (omega arith) (next _ _ (parameter_list_at-local n m (at + 1) (omega arith) (omega arith)) (λ rest other to behind. done 0 to (omega arith))))
      (up 1 at 0 at (omega arith) (omega arith) (last_parameter-local parameter at)))

  module _ (few : k < length ts + 1) (fewer : k < length ws + 1) where
    parameters_at-local : (from : ℕ) → Local k E 1 from (parameters_at ts from) (parameters_at ws from)
    unfolding parameters_at
    parameters_at-local from =
        on_mark marks.RightParen 1 from (done 1 from (omega arith))
        (on_key keys.Void 1 from (up 1 (from + 1) 1 from (omega arith) (omega arith) (mark_then marks.RightParen (from + 1) (done 0 (from + 1 + 1) (omega arith))))
        (parameter_list_at-local (length ts + 1) (length ws + 1) from (omega arith) (omega arith)))

    module _ (b c : ℕ) (budgets : Budgets E b c) where
      -- ---- functions

      abbrev function_on : List Token → ℕ → (symbol from line : ℕ) → ParseOutcome UnitFunction
      function_on tokens budget symbol from line = expect tokens marks.LeftParen (from + 2) (after (parameters_at tokens (from + 3)) (λ parameters other at.
          expect tokens marks.LeftBrace at (after (block_at tokens Allowed (statement_below tokens Allowed budget) budget at) (λ items height to.
          Parsed (function_with symbol line parameters items) height to))))

      pub function_at-local : (symbol from : ℕ) → Local k E 1 (from + 2) (function_at ts b symbol from) (function_at ws c symbol from)
      unfolding function_at
      function_at-local symbol from =
          behind_line 1 (from + 1) (from + 2) (function_on ts b symbol from) (function_on ws c symbol from) (omega arith) (λ line.
          mark_then marks.LeftParen (from + 2) (up 1 (from + 3) 0 (from + 2 + 1) (omega arith) (omega arith)
          (next _ _ (parameters_at-local (from + 3)) (λ parameters other at onward.
          on_mark marks.LeftBrace 0 at
          (up 1 at 0 at (omega arith) (omega arith)
          (next _ _ (block_at-local k E ts ws Allowed kinds_agree lines_agree b c budgets few fewer (statement_below ts Allowed b) (statement_below ws Allowed c)
          (statement_below-local k E ts ws Allowed kinds_agree lines_agree few fewer b c budgets) at) (λ items height to behind. done 0 to (omega arith))))
          (unreadable k E 0 at at (omega arith))))))

      main_alone-local : (from : ℕ) → Local k E 1 from (main_alone ts b from) (main_alone ws c from)
      unfolding main_alone
      main_alone-local from = next _ _ (main_at-local k E ts ws Allowed kinds_agree lines_agree few fewer b c budgets from) (λ items height to onward. done 0 to (omega arith))

      functions_on-goes : (f : (from : ℕ) → ParseOutcome TranslationUnit) → ((from : ℕ) → Goes 1 from (f from)) → (symbol : Option ℕ) (from : ℕ) → Goes 0 (from + 1) (functions_on ts b f symbol from)
      unfolding functions_on
      functions_on-goes f each (Some symbol) from = Goes-from 1 (from + 2) 0 (from + 1) _ (omega arith) (omega arith)
          (Goes-after 1 (from + 2) (function_at ts b symbol from) _ (function_at-local symbol from).goes (λ function height at onward.
          Goes-from 1 at 0 at _ (omega arith) (omega arith) (Goes-after 1 at (f at) _ (each at) (λ unit other to behind. omega arith))))
      functions_on-goes f each None from = Goes-from 1 (from + 1) 0 (from + 1) _ (omega arith) (omega arith) (main_alone-local (from + 1)).goes

      functions_at-goes : (n from : ℕ) → Goes 1 from (functions_at ts b n from)
      unfolding functions_at
      functions_at-goes zero from = omega arith
      functions_at-goes (suc n) from =
          Goes-cond 1 from (is_key keys.Int (kind_at ts from)) _ _
          (Goes-from 0 (from + 1) 1 from _ (omega arith) (omega arith) (functions_on-goes (functions_at ts b n) (functions_at-goes n) (symbol_of (kind_at ts (from + 1))) from))
          (omega arith)

      functions_on-local : (f g : (from : ℕ) → ParseOutcome TranslationUnit) (from : ℕ) → ((at : ℕ) → from < at → Local k E 1 at (f at) (g at)) → (symbol : Option ℕ) →
          Local k E 0 (from + 1) (functions_on ts b f symbol from) (functions_on ws c g symbol from)
      unfolding functions_on
      functions_on-local f g from each (Some symbol) =
          up 1 (from + 2) 0 (from + 1) (omega arith) (omega arith)
          (next _ _ (function_at-local symbol from) (λ function height at onward.
          up 1 at 0 at (omega arith) (omega arith) (next _ _ (each at (omega arith)) (λ unit other to behind. done 0 to (omega arith)))))
      functions_on-local f g from each None = up 1 (from + 1) 0 (from + 1) (omega arith) (omega arith) (main_alone-local (from + 1))

      functions_at-local : (n m from : ℕ) → k < from + n → k < from + m → Local k E 1 from (functions_at ts b n from) (functions_at ws c m from)
      unfolding functions_at
      functions_at-local zero m from little less = record { goes = omega arith; carries = λ s e. absurd (omega arith) }
      functions_at-local (suc n) zero from little less =
          let goes = functions_at-goes (suc n) from in
          let onward = Goes-stop 1 from (functions_at ts b (suc n) from) goes in
          record { goes = goes; carries = λ s e. absurd (omega arith) }
      functions_at-local (suc n) (suc m) from little less =
          key_then keys.Int from
          (by_kind 0 (from + 1) (λ kind. functions_on ts b (functions_at ts b n) (symbol_of kind) from) (λ kind. functions_on ws c (functions_at ws c m) (symbol_of kind) from) (λ kind.
          functions_on-local (functions_at ts b n) (functions_at ws c m) from (λ at onward. functions_at-local n m at (omega arith) (omega arith)) (symbol_of kind)))

      pub unit_at-local : Local k E 1 0 (unit_at ts b) (unit_at ws c)
      unfolding unit_at
      unit_at-local = functions_at-local (length ts + 1) (length ws + 1) 0 (omega arith) (omega arith)
