-- What the parser of static arrays gives is what the grammar reads.
use Rattle.std.proofs.Common.{◌≡◌, refl, ap, ℕ, ℤ, zero, suc, pos, negsuc, ◌+◌, ◌≤◌, List, length, arith}
use Rattle.std.specs.Prelude.{Option, Some, None}
use Rattle.pc_lexer.specs.declared.token.Token.{Token}
use Rattle.pc_lexer.specs.declared.token.TokenKind.{TokenKind}
use Rattle.pc_lexer.specs.declared.token.TokenKind.TheVariants as kinds
use Rattle.pc_lexer.specs.declared.mark.Mark.TheVariants as marks
use Rattle.pc_syntax.specs.declared.constant.Const.{Const}
use Rattle.pc_syntax.specs.Unit.{UnitStatement}
use Rattle.pc_parser.specs.declared.calls.Calls.{Calls}
use Rattle.pc_parser.specs.models.Tests.{symbol_of}
use Rattle.pc_parser.specs.declared.storage.Storage.TheVariants.{Static}
use Rattle.pc_parser.specs.Places.{kind_at}
use Rattle.pc_parser.specs.Statements.{ReadsConstant, ReadsConstants, ReadsDeclarator}
use Rattle.pc_parser.specs.models.StatementParser.{length_of, number_of, natural, plain, negated, constant_at, constants_at, valued, sized, fixed_on}
use Rattle.pc_parser.proofs.Names.{symbol-is}
use Rattle.pc_parser.proofs.Onward.{inside, constants-onward}
use Rattle.pc_parser.proofs.Holds.{Good, after-good, expect-good, on_mark-good}

-- what is a number or a length
number-is : (kind : Option TokenKind) (value : ℤ) → number_of kind ≡ Some value → kind ≡ Some (kinds.Number value)
unfolding number_of
number-is (Some (kinds.Number found)) value is = let same : found ≡ value = cc in ap (λ v. Some (kinds.Number v)) same
number-is (Some (kinds.Name symbol)) value is = cc
number-is (Some (kinds.Key key)) value is = cc
number-is (Some (kinds.Mark mark)) value is = cc
number-is None value is = cc

natural-is : (value : ℤ) (size : ℕ) → natural value ≡ Some size → value ≡ pos size
natural-is (pos found) size is = let same : found ≡ size = cc in ap pos same
natural-is (negsuc found) size is = cc

pub length-is : (kind : Option TokenKind) (size : ℕ) → length_of kind ≡ Some size → kind ≡ Some (kinds.Number (pos size))
unfolding length_of
length-is (Some (kinds.Number value)) size is = ap (λ v. Some (kinds.Number v)) (natural-is value size is)
length-is (Some (kinds.Name found)) size is = cc
length-is (Some (kinds.Key key)) size is = cc
length-is (Some (kinds.Mark mark)) size is = cc
length-is None size is = cc

module _ (tokens : List Token) (calls : Calls) where
  record IsConstant (p : ℕ) (t : Const) (h q : ℕ) : Type 0 where
    reads : ReadsConstant tokens p t q
    within : q ≤ length tokens
    onward : p ≤ q

  record AreConstants (p : ℕ) (t : List Const) (h q : ℕ) : Type 0 where
    reads : ReadsConstants tokens p t q
    within : q ≤ length tokens

  -- a declarator of a static declaration
  pub record IsFixed (p : ℕ) (s : UnitStatement) (h q : ℕ) : Type 0 where
    pub reads : ReadsDeclarator tokens calls Static p s h q
    pub one : h ≡ 1
    pub within : q ≤ length tokens
    pub onward : p ≤ q

  plain-holds : (late p : ℕ) (value : Option ℤ) → p ≤ length tokens → number_of (kind_at tokens p) ≡ value → Good (length tokens) late (IsConstant p) (plain tokens p value)
  unfolding plain
  plain-holds late p (Some value) within found =
      let is = number-is (kind_at tokens p) value found in
      let here = inside tokens p _ is in
      record { reads = ReadsConstant.number is; within = omega arith; onward = omega arith }
  plain-holds late p None within found = within

  negated-holds : (late p : ℕ) (value : Option ℤ) → kind_at tokens p ≡ Some (kinds.Mark marks.Minus) → number_of (kind_at tokens (p + 1)) ≡ value →
      Good (length tokens) late (IsConstant p) (negated tokens p value)
  unfolding negated
  negated-holds late p (Some value) minus found =
      let is = number-is (kind_at tokens (p + 1)) value found in
      let here = inside tokens (p + 1) _ is in
      record { reads = ReadsConstant.negated minus is; within = omega arith; onward = omega arith }
  negated-holds late p None minus found = let here = inside tokens p _ minus in omega arith

  constant_at-holds : (late p : ℕ) → p ≤ length tokens → Good (length tokens) late (IsConstant p) (constant_at tokens p)
  unfolding constant_at
  constant_at-holds late p within =
      on_mark-good tokens late marks.Minus p (IsConstant p) _ _ (λ minus below'. negated-holds late p (number_of (kind_at tokens (p + 1))) minus refl)
      (λ no'. plain-holds late p (number_of (kind_at tokens p)) within refl)

  constants_at-holds : (late n p : ℕ) → p ≤ length tokens → Good (length tokens) late (AreConstants p) (constants_at tokens n p)
  unfolding constants_at
  constants_at-holds late zero p within = within
  constants_at-holds late (suc n) p within =
      after-good (length tokens) late late (IsConstant p) (AreConstants p) (constant_at tokens p) _ (omega arith) (constant_at-holds late p within) (λ t h q first.
      on_mark-good tokens late marks.Comma q (AreConstants p) _ _
      (λ comma below'. on_mark-good tokens late marks.RightBrace (q + 1) (AreConstants p) _ _
      (λ close' below''. record { reads = ReadsConstants.last_with_comma first.reads comma close'; within = omega arith })
      (λ no'. after-good (length tokens) late late (AreConstants (q + 1)) (AreConstants p) (constants_at tokens n (q + 1)) _ (omega arith)
      (constants_at-holds late n (q + 1) (omega arith)) (λ rest j to others. record { reads = ReadsConstants.comma first.reads comma others.reads; within = others.within })))
      (λ no'. expect-good tokens late marks.RightBrace q (AreConstants p) _ first.within
      (λ close' below'. record { reads = ReadsConstants.last first.reads close'; within = omega arith })))

  sized-holds : (late symbol p : ℕ) (size : Option ℕ) → kind_at tokens p ≡ Some (kinds.Name symbol) → kind_at tokens (p + 1) ≡ Some (kinds.Mark marks.LeftBracket) →
      length_of (kind_at tokens (p + 2)) ≡ size → Good (length tokens) late (IsFixed p) (sized tokens symbol p size)
  unfolding sized valued
  sized-holds late symbol p (Some size) is open' found =
      let number = length-is (kind_at tokens (p + 2)) size found in
      let within = inside tokens (p + 2) _ number in
      expect-good tokens late marks.RightBracket (p + 3) (IsFixed p) _ (omega arith) (λ close' below'.
      on_mark-good tokens late marks.Assign (p + 4) (IsFixed p) _ _
      (λ assign below''. expect-good tokens late marks.LeftBrace (p + 5) (IsFixed p) _ (omega arith) (λ brace below'''.
      after-good (length tokens) late late (AreConstants (p + 6)) (IsFixed p) (constants_at tokens (length tokens + 1) (p + 6)) _ (omega arith)
      (constants_at-holds late (length tokens + 1) (p + 6) (omega arith)) (λ values h q all.
      let onward = constants-onward tokens (p + 6) values q all.reads in
      record { reads = ReadsDeclarator.initialised_array is open' number close' assign brace all.reads; one = refl; within = all.within; onward = omega arith })))
      (λ no'. record { reads = ReadsDeclarator.array is open' number close'; one = refl; within = omega arith; onward = omega arith }))
  sized-holds late symbol p None is open' found = let within = inside tokens (p + 1) _ open' in omega arith

  pub fixed_on-holds : (late p : ℕ) (symbol : Option ℕ) → p ≤ length tokens → symbol_of (kind_at tokens p) ≡ symbol → Good (length tokens) late (IsFixed p) (fixed_on tokens symbol p)
  unfolding fixed_on
  fixed_on-holds late p (Some symbol) within found =
      let is = symbol-is (kind_at tokens p) symbol found in
      let here = inside tokens p _ is in
      expect-good tokens late marks.LeftBracket (p + 1) (IsFixed p) _ (omega arith) (λ open' below'.
      sized-holds late symbol p (length_of (kind_at tokens (p + 2))) is open' refl)
  fixed_on-holds late p None within found = within
