-- The parser of static arrays depends on the tokens up to where it stops.
use Rattle.std.proofs.Common.{◌≡◌, ap, ◌∙◌, ℕ, zero, suc, ℤ, pos, ◌+◌, ◌<◌, ◌≤◌, List, [], ◌∷◌, length, arith, cond}
use Rattle.std.specs.Prelude.{Option, Some, None}
use Rattle.pc_word.specs.Word.{word_sub}
use Rattle.pc_lexer.specs.declared.token.Token.{Token}
use Rattle.pc_lexer.specs.declared.token.TokenKind.{TokenKind}
use Rattle.pc_lexer.specs.declared.mark.Mark.{Mark}
use Rattle.pc_lexer.specs.declared.mark.Mark.TheVariants as marks
use Rattle.pc_syntax.specs.declared.constant.Const.{Const}
use Rattle.pc_syntax.specs.Unit.{UnitStatement, Array}
use Rattle.pc_parser.specs.Places.{kind_at, line_at}
use Rattle.pc_parser.specs.models.Tests.{is_mark}
use Rattle.pc_parser.specs.models.Outcome.{ParseOutcome, Parsed, Unreadable, after, expect}
use Rattle.pc_parser.specs.models.StatementParser.{length_of, number_of, array, plain, negated, constant_at, constants_at, valued, sized, fixed_on}
use Rattle.pc_parser.proofs.Local.{Goes, Goes-stop, Goes-from, Goes-after, Goes-cond, Local, parsed, unreadable, earlier, after-local, look, look_line, if-local, expect-local}

module _ (k : ℕ) (E : Type 0) (ts ws : List Token) (kinds_agree : (i : ℕ) → i ≤ k → kind_at ws i ≡ kind_at ts i) (lines_agree : (i : ℕ) → i ≤ k → line_at ws i ≡ line_at ts i) where
  -- the combinators at these two lists
  mark_then : {A : Type 0} (mark : Mark) (from : ℕ) {x y : ParseOutcome A} → Local k E 0 (from + 1) x y → Local k E 1 from (expect ts mark from x) (expect ws mark from y)
  mark_then mark from {x} {y} rest = expect-local k E ts ws kinds_agree lines_agree mark from x y rest

  on_mark : {A : Type 0} (mark : Mark) (by from : ℕ) {x y z w : ParseOutcome A} → Local k E by from x y → Local k E by from z w →
      Local k E by from (cond (is_mark mark (kind_at ts from)) x z) (cond (is_mark mark (kind_at ws from)) y w)
  on_mark mark by from {x} {y} {z} {w} one other = if-local k E ts ws kinds_agree lines_agree (is_mark mark) by from x y z w one other

  by_kind : {A : Type 0} (by from : ℕ) (F G : Option TokenKind → ParseOutcome A) → ((kind : Option TokenKind) → Local k E by from (F kind) (G kind)) →
      Local k E by from (F (kind_at ts from)) (G (kind_at ws from))
  by_kind by from F G each = look k E ts ws kinds_agree lines_agree by from F G each

  by_line : {A : Type 0} (by from : ℕ) (F G : ℕ → ParseOutcome A) → ((line : ℕ) → Local k E by from (F line) (G line)) → Local k E by from (F (line_at ts from)) (G (line_at ws from))
  by_line by from F G each = look_line k E ts ws kinds_agree lines_agree by from F G each

  -- the line of a place that was passed
  behind_line : {A : Type 0} (by from at : ℕ) (F G : ℕ → ParseOutcome A) → from ≤ at → ((line : ℕ) → Local k E by at (F line) (G line)) → Local k E by at (F (line_at ts from)) (G (line_at ws from))
  behind_line by from at F G inside each =
      let here = each (line_at ts from) in
      let onward = Goes-stop by at (F (line_at ts from)) here.goes in
      record { goes = here.goes; carries = λ s e. ap G (lines_agree from (omega arith)) ∙ here.carries s e }

  next : {A B : Type 0} {by more from : ℕ} {x y : ParseOutcome A} (f g : A → ℕ → ℕ → ParseOutcome B) → Local k E by from x y →
      ((tree : A) (height to : ℕ) → from + by ≤ to → Local k E more to (f tree height to) (g tree height to)) → Local k E by from (after x f) (after y g)
  next {by = by} {more = more} {from = from} {x = x} {y = y} f g first rest = after-local k E by more from x y f g first rest

  up : {A : Type 0} (by from less before : ℕ) {x y : ParseOutcome A} → before + less ≤ from + by → before ≤ from → Local k E by from x y → Local k E less before x y
  up by from less before {x} {y} h g local = earlier k E by from less before x y h g local

  done : {A : Type 0} (by from : ℕ) {tree : A} {height to : ℕ} → from + by ≤ to → Local k E by from (Parsed tree height to) (Parsed tree height to)
  done by from {tree} {height} {to} goes = parsed k E by from tree height to goes

  -- ---- constants

  abbrev constant_with : ℤ → (to line : ℕ) → ParseOutcome Const
  constant_with value to line = Parsed (record { line = line; value = value }) 1 to

  plain-local : (from : ℕ) (value : Option ℤ) → Local k E 1 from (plain ts from value) (plain ws from value)
  unfolding plain
  plain-local from (Some value) = by_line 1 from (constant_with value (from + 1)) (constant_with value (from + 1)) (λ line. done 1 from (omega arith))
  plain-local from None = unreadable k E 1 from from (omega arith)

  negated-local : (from : ℕ) (value : Option ℤ) → Local k E 0 (from + 1) (negated ts from value) (negated ws from value)
  unfolding negated
  negated-local from (Some value) =
      behind_line 0 from (from + 1) (constant_with (word_sub (pos 0) value) (from + 2)) (constant_with (word_sub (pos 0) value) (from + 2)) (omega arith) (λ line. done 0 (from + 1) (omega arith))
  negated-local from None = unreadable k E 0 (from + 1) (from + 1) (omega arith)

  constant_at-local : (from : ℕ) → Local k E 1 from (constant_at ts from) (constant_at ws from)
  unfolding constant_at
  constant_at-local from =
      on_mark marks.Minus 1 from
      (up 0 (from + 1) 1 from (omega arith) (omega arith)
      (by_kind 0 (from + 1) (λ kind. negated ts from (number_of kind)) (λ kind. negated ws from (number_of kind)) (λ kind. negated-local from (number_of kind))))
      (by_kind 1 from (λ kind. plain ts from (number_of kind)) (λ kind. plain ws from (number_of kind)) (λ kind. plain-local from (number_of kind)))

  last_constant-local : (tree : Const) (at : ℕ) → Local k E 1 at (expect ts marks.RightBrace at (Parsed (tree ∷ []) 1 (at + 1))) (expect ws marks.RightBrace at (Parsed (tree ∷ []) 1 (at + 1)))
  last_constant-local tree at = mark_then marks.RightBrace at (done 0 (at + 1) (omega arith))

  constants_at-goes : (n from : ℕ) → Goes 1 from (constants_at ts n from)
  unfolding constants_at
  constants_at-goes zero from = omega arith
  constants_at-goes (suc n) from = Goes-after 1 from (constant_at ts from) _ (constant_at-local from).goes (λ tree height at onward.
      Goes-cond 0 at (is_mark marks.Comma (kind_at ts at)) _ _
      (Goes-cond 0 at (is_mark marks.RightBrace (kind_at ts (at + 1))) _ _ (omega arith)
      (Goes-from 1 (at + 1) 0 at _ (omega arith) (omega arith)
      (Goes-after 1 (at + 1) (constants_at ts n (at + 1)) (λ rest other to. Parsed (tree ∷ rest) 1 to) (constants_at-goes n (at + 1)) (λ rest other to behind. omega arith))))
      (Goes-from 1 at 0 at _ (omega arith) (omega arith) (last_constant-local tree at).goes))

  constants_at-local : (n m from : ℕ) → k < from + n → k < from + m → Local k E 1 from (constants_at ts n from) (constants_at ws m from)
  unfolding constants_at
  constants_at-local zero m from few fewer = record { goes = omega arith; carries = λ s e. absurd (omega arith) }
  constants_at-local (suc n) zero from few fewer =
      let goes = constants_at-goes (suc n) from in
      let onward = Goes-stop 1 from (constants_at ts (suc n) from) goes in
      record { goes = goes; carries = λ s e. absurd (omega arith) }
  constants_at-local (suc n) (suc m) from few fewer =
      next _ _ (constant_at-local from) (λ tree height at onward.
      on_mark marks.Comma 0 at
      (up 0 (at + 1) 0 at (omega arith) (omega arith)
      (on_mark marks.RightBrace 0 (at + 1) (done 0 (at + 1) (omega arith))
      (up 1 (at + 1) 0 (at + 1) (omega arith) (omega arith)
      (next _ _ (constants_at-local n m (at + 1) (omega arith) (omega arith)) (λ rest other to behind. done 0 to (omega arith))))))
      (up 1 at 0 at (omega arith) (omega arith) (last_constant-local tree at)))

  -- ---- declarators

  abbrev array_with : List Token → ℕ → ℕ → Option ℕ → (line at : ℕ) → ParseOutcome UnitStatement
  array_with tokens symbol from (Some length) line at = expect tokens marks.RightBracket (from + 3) (Parsed (Array symbol line at length []) 1 (from + 4))
  array_with tokens symbol from None line at = Unreadable (from + 2)

  pub array-local : (symbol from : ℕ) (size : Option ℕ) → Local k E 0 (from + 2) (array ts symbol from size) (array ws symbol from size)
  unfolding array
  array-local symbol from (Some size) =
      behind_line 0 from (from + 2) (λ line. array_with ts symbol from (Some size) line (line_at ts (from + 2)))
      (λ line. array_with ws symbol from (Some size) line (line_at ws (from + 2))) (omega arith) (λ line.
      by_line 0 (from + 2) (λ at. array_with ts symbol from (Some size) line at) (λ at. array_with ws symbol from (Some size) line at) (λ at.
      up 1 (from + 3) 0 (from + 2) (omega arith) (omega arith) (mark_then marks.RightBracket (from + 3) (done 0 (from + 3 + 1) (omega arith)))))
  array-local symbol from None = unreadable k E 0 (from + 2) (from + 2) (omega arith)

  -- the list of tokens that is gone on with is long enough

  module _ (few : k < length ts + 1) (fewer : k < length ws + 1) where
    abbrev valued_with : List Token → (symbol from size line at : ℕ) → ParseOutcome UnitStatement
    valued_with tokens symbol from size line at = expect tokens marks.LeftBrace (from + 5) (after (constants_at tokens (length tokens + 1) (from + 6)) (λ values height to.
        Parsed (Array symbol line at size values) 1 to))

    valued-local : (symbol from size : ℕ) → Local k E 0 (from + 5) (valued ts symbol from size) (valued ws symbol from size)
    unfolding valued
    valued-local symbol from size =
        behind_line 0 from (from + 5) (λ line. valued_with ts symbol from size line (line_at ts (from + 2)))
        (λ line. valued_with ws symbol from size line (line_at ws (from + 2))) (omega arith) (λ line.
        behind_line 0 (from + 2) (from + 5) (valued_with ts symbol from size line) (valued_with ws symbol from size line) (omega arith) (λ at.
        up 1 (from + 5) 0 (from + 5) (omega arith) (omega arith) (mark_then marks.LeftBrace (from + 5)
        (up 1 (from + 6) 0 (from + 5 + 1) (omega arith) (omega arith)
        (next _ _ (constants_at-local (length ts + 1) (length ws + 1) (from + 6) (omega arith) (omega arith)) (λ values height to onward. done 0 to (omega arith)))))))

    abbrev bare_with : (symbol from size line at : ℕ) → ParseOutcome UnitStatement
    bare_with symbol from size line at = Parsed (Array symbol line at size []) 1 (from + 4)

    sized-local : (symbol from : ℕ) (size : Option ℕ) → Local k E 0 (from + 2) (sized ts symbol from size) (sized ws symbol from size)
    unfolding sized
    sized-local symbol from (Some size) =
        up 1 (from + 3) 0 (from + 2) (omega arith) (omega arith) (mark_then marks.RightBracket (from + 3)
        (up 0 (from + 4) 0 (from + 3 + 1) (omega arith) (omega arith) (on_mark marks.Assign 0 (from + 4)
        (up 0 (from + 5) 0 (from + 4) (omega arith) (omega arith) (valued-local symbol from size))
        (behind_line 0 from (from + 4) (λ line. bare_with symbol from size line (line_at ts (from + 2))) (λ line. bare_with symbol from size line (line_at ws (from + 2))) (omega arith) (λ line.
        behind_line 0 (from + 2) (from + 4) (bare_with symbol from size line) (bare_with symbol from size line) (omega arith) (λ at. done 0 (from + 4) (omega arith)))))))
    sized-local symbol from None = unreadable k E 0 (from + 2) (from + 2) (omega arith)

    pub fixed_on-local : (from : ℕ) (symbol : Option ℕ) → Local k E 1 from (fixed_on ts symbol from) (fixed_on ws symbol from)
    unfolding fixed_on
    fixed_on-local from (Some symbol) =
        up 1 (from + 1) 1 from (omega arith) (omega arith) (mark_then marks.LeftBracket (from + 1)
        (up 0 (from + 2) 0 (from + 1 + 1) (omega arith) (omega arith)
        (by_kind 0 (from + 2) (λ kind. sized ts symbol from (length_of kind)) (λ kind. sized ws symbol from (length_of kind)) (λ kind. sized-local symbol from (length_of kind)))))
    fixed_on-local from None = unreadable k E 1 from from (omega arith)
