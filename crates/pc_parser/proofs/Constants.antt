-- What the loop over the constants of an initialiser has so far, with what the parser gives of the rest.
use Rattle.std.proofs.Common.{◌≡◌, refl, sym, ap, ◌∙◌, subst, ℕ, zero, suc, ◌+◌, ◌-◌, ◌≤◌, Bool, true, false, List, [], ◌∷◌, ◌++◌, length, arith, cond, append_assoc}
use Rattle.pc_lexer.specs.declared.token.Token.{Token}
use Rattle.pc_lexer.specs.declared.mark.Mark.TheVariants as marks
use Rattle.pc_syntax.specs.declared.constant.Const.{Const}
use Rattle.pc_parser.specs.declared.outcome.Failure.{Failure}
use Rattle.pc_parser.specs.Places.{kind_at}
use Rattle.pc_parser.specs.models.Tests.{is_mark}
use Rattle.pc_parser.specs.models.Outcome.{ParseOutcome, Parsed, Unreadable, TooHigh, after, expect}
use Rattle.pc_parser.specs.models.StatementParser.{constant_at, constants_at}
use Rattle.pc_parser.specs.models.Parsing.{FailsParsing}
use Rattle.pc_parser.proofs.Budgets.{fails-after}

-- constants that are read, after those before them
abbrev in_front : List Const → ParseOutcome (List Const) → ParseOutcome (List Const)
in_front front outcome = after outcome (λ rest height to. Parsed (front ++ rest) 1 to)

in_front-more : (front : List Const) (tree : Const) (outcome : ParseOutcome (List Const)) →
    in_front front (after outcome (λ rest height to. Parsed (tree ∷ rest) 1 to)) ≡ in_front (front ++ tree ∷ []) outcome
in_front-more front tree (Parsed rest height to) = ap (λ (l : List Const). Parsed l 1 to) (sym (append_assoc front (tree ∷ []) rest))
in_front-more front tree (Unreadable at) = refl
in_front-more front tree (TooHigh at) = refl

module _ (tokens : List Token) where
  -- the constants so far, and what goes on after them
  abbrev pub constants_on : List Const → (at turns : ℕ) → ParseOutcome (List Const)
  constants_on front at turns =
      cond (is_mark marks.Comma (kind_at tokens at))
      (cond (is_mark marks.RightBrace (kind_at tokens (at + 1))) (Parsed front 1 (at + 2)) (in_front front (constants_at tokens turns (at + 1))))
      (expect tokens marks.RightBrace at (Parsed front 1 (at + 1)))

  -- the first constant
  pub constants-first : (list : List Const) (p : ℕ) (tree : Const) (height at : ℕ) → constant_at tokens p ≡ Parsed tree height at → list ≡ tree ∷ [] →
      constants_at tokens (length tokens + 1) p ≡ constants_on list at (length tokens)
  unfolding constants_at
  constants-first list p tree height at is list_is =
      let less : length tokens + 1 - 1 ≡ length tokens = omega arith in
      turn (length tokens + 1) (omega arith) ∙ ap (λ n. constants_on (tree ∷ []) at n) less ∙ ap (λ (l : List Const). constants_on l at (length tokens)) (sym list_is)
    where
      rest_of : ℕ → Const → ℕ → ParseOutcome (List Const)
      rest_of turns tree at =
          cond (is_mark marks.Comma (kind_at tokens at))
          (cond (is_mark marks.RightBrace (kind_at tokens (at + 1))) (Parsed (tree ∷ []) 1 (at + 2))
          (after (constants_at tokens turns (at + 1)) (λ rest other to. Parsed (tree ∷ rest) 1 to)))
          (expect tokens marks.RightBrace at (Parsed (tree ∷ []) 1 (at + 1)))

      turn : (turns : ℕ) → 1 ≤ turns → constants_at tokens turns p ≡ constants_on (tree ∷ []) at (turns - 1)
      turn zero some = absurd (omega arith)
      turn (suc turns) some =
          let less : turns ≡ suc turns - 1 = omega arith in
          ap (λ (o : ParseOutcome Const). after o (λ t h q. rest_of turns t q)) is ∙ ap (λ n. constants_on (tree ∷ []) at n) less

  -- one constant more
  constants-turn : (front : List Const) (turns p : ℕ) (tree : Const) (height at : ℕ) → 1 ≤ turns → constant_at tokens p ≡ Parsed tree height at →
      in_front front (constants_at tokens turns p) ≡ constants_on (front ++ tree ∷ []) at (turns - 1)
  unfolding constants_at
  constants-turn front zero p tree height at some is = absurd (omega arith)
  constants-turn front (suc turns) p tree height at some is =
      let less : turns ≡ suc turns - 1 = omega arith in
      ap (λ (o : ParseOutcome Const). in_front front (after o (λ t h q.
      cond (is_mark marks.Comma (kind_at tokens q))
      (cond (is_mark marks.RightBrace (kind_at tokens (q + 1))) (Parsed (t ∷ []) 1 (q + 2))
      (after (constants_at tokens turns (q + 1)) (λ rest other to. Parsed (t ∷ rest) 1 to)))
      (expect tokens marks.RightBrace q (Parsed (t ∷ []) 1 (q + 1)))))) is
      ∙ by (is_mark marks.Comma (kind_at tokens at)) (is_mark marks.RightBrace (kind_at tokens (at + 1))) (is_mark marks.RightBrace (kind_at tokens at))
      ∙ ap (λ n. constants_on (front ++ tree ∷ []) at n) less
    where
      by : (comma close' last : Bool) →
          in_front front (cond comma (cond close' (Parsed (tree ∷ []) 1 (at + 2)) (after (constants_at tokens turns (at + 1)) (λ rest other to. Parsed (tree ∷ rest) 1 to)))
          (cond last (Parsed (tree ∷ []) 1 (at + 1)) (Unreadable at)))
          ≡ cond comma (cond close' (Parsed (front ++ tree ∷ []) 1 (at + 2)) (in_front (front ++ tree ∷ []) (constants_at tokens turns (at + 1))))
          (cond last (Parsed (front ++ tree ∷ []) 1 (at + 1)) (Unreadable at))
      by true true last = refl
      by true false last = in_front-more front tree (constants_at tokens turns (at + 1))
      by false close' true = refl
      by false close' false = refl

  -- a constant that fails
  constants-fail : (turns p : ℕ) (failure : Failure) → 1 ≤ turns → FailsParsing failure (constant_at tokens p) → FailsParsing failure (constants_at tokens turns p)
  unfolding constants_at
  constants-fail zero p failure some fails = absurd (omega arith)
  constants-fail (suc turns) p failure some fails = fails-after failure (constant_at tokens p) _ fails

  pub constants-fail_first : (p : ℕ) (failure : Failure) → FailsParsing failure (constant_at tokens p) → FailsParsing failure (constants_at tokens (length tokens + 1) p)
  constants-fail_first p failure fails = constants-fail (length tokens + 1) p failure (omega arith) fails

  module _ (whole : ParseOutcome (List Const)) (front : List Const) (at turns : ℕ) (same : whole ≡ constants_on front at turns)
      (comma : is_mark marks.Comma (kind_at tokens at) ≡ true) where
    on_comma : whole ≡ cond (is_mark marks.RightBrace (kind_at tokens (at + 1))) (Parsed front 1 (at + 2)) (in_front front (constants_at tokens turns (at + 1)))
    on_comma = same ∙ ap (λ t. cond t (cond (is_mark marks.RightBrace (kind_at tokens (at + 1))) (Parsed front 1 (at + 2)) (in_front front (constants_at tokens turns (at + 1))))
        (expect tokens marks.RightBrace at (Parsed front 1 (at + 1)))) comma

    -- a `}` after a comma
    pub constants-closed : is_mark marks.RightBrace (kind_at tokens (at + 1)) ≡ true → whole ≡ Parsed front 1 (at + 2)
    constants-closed close' = on_comma ∙ ap (λ t. cond t (Parsed front 1 (at + 2)) (in_front front (constants_at tokens turns (at + 1)))) close'

    -- one constant more in the loop
    pub constants-more : (list : List Const) (tree : Const) (height to : ℕ) → is_mark marks.RightBrace (kind_at tokens (at + 1)) ≡ false → 1 ≤ turns →
        constant_at tokens (at + 1) ≡ Parsed tree height to → list ≡ front ++ tree ∷ [] → whole ≡ constants_on list to (turns - 1)
    constants-more list tree height to no' some is list_is =
        on_comma ∙ ap (λ t. cond t (Parsed front 1 (at + 2)) (in_front front (constants_at tokens turns (at + 1)))) no'
        ∙ constants-turn front turns (at + 1) tree height to some is ∙ ap (λ (l : List Const). constants_on l to (turns - 1)) (sym list_is)

    -- a failure of a constant in the loop
    pub constants-fail_more : (failure : Failure) → is_mark marks.RightBrace (kind_at tokens (at + 1)) ≡ false → 1 ≤ turns →
        FailsParsing failure (constant_at tokens (at + 1)) → FailsParsing failure whole
    constants-fail_more failure no' some fails =
        subst (λ (o : ParseOutcome (List Const)). FailsParsing failure o)
        (sym (on_comma ∙ ap (λ t. cond t (Parsed front 1 (at + 2)) (in_front front (constants_at tokens turns (at + 1)))) no'))
        (fails-after failure (constants_at tokens turns (at + 1)) _ (constants-fail turns (at + 1) failure some fails))
