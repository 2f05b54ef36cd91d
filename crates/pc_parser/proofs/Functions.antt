-- What the loops over parameters and over functions have so far, with what the parser gives of the rest.
use Rattle.std.proofs.Common.{◌≡◌, refl, sym, ap, ◌∙◌, subst, ℕ, zero, suc, ◌+◌, ◌-◌, ◌≤◌, Bool, true, false, List, [], ◌∷◌, ◌++◌, length, arith, cond, append_assoc}
use Rattle.std.specs.Prelude.{Some, None, max, map}
use Rattle.pc_lexer.specs.declared.token.Token.{Token}
use Rattle.pc_lexer.specs.declared.mark.Mark.TheVariants as marks
use Rattle.pc_lexer.specs.declared.keyword.Keyword.TheVariants as keys
use Rattle.pc_syntax.specs.declared.unit.Param.{Param}
use Rattle.pc_syntax.specs.declared.unit.Function.{Function}
use Rattle.pc_syntax.specs.Unit.{UnitList, UnitFunction, TranslationUnit}
use Rattle.pc_syntax.specs.UnitErasure.{function_of}
use Rattle.pc_parser.specs.declared.calls.Calls.TheVariants.{Allowed}
use Rattle.pc_parser.specs.declared.outcome.Failure.{Failure}
use Rattle.pc_parser.specs.declared.outcome.Failure.TheVariants as failures
use Rattle.pc_parser.specs.Places.{kind_at}
use Rattle.pc_parser.specs.models.Tests.{is_mark, is_key, symbol_of}
use Rattle.pc_parser.specs.models.Outcome.{ParseOutcome, Parsed, Unreadable, TooHigh, after, expect, expect_key}
use Rattle.pc_parser.specs.models.StatementParser.{main_at}
use Rattle.pc_parser.specs.models.UnitParser.{function_name, with_function, parameter_at, parameter_list_at, function_at, main_alone, functions_on, functions_at, unit_at}
use Rattle.pc_parser.specs.models.Parsing.{FailsParsing}
use Rattle.pc_parser.proofs.Budgets.{fails-after}

-- parameters that are read, after those before them
abbrev in_front : List Param → ParseOutcome (List Param) → ParseOutcome (List Param)
in_front front outcome = after outcome (λ rest height to. Parsed (front ++ rest) 0 to)

in_front-more : (front : List Param) (tree : Param) (outcome : ParseOutcome (List Param)) →
    in_front front (after outcome (λ rest height to. Parsed (tree ∷ rest) 0 to)) ≡ in_front (front ++ tree ∷ []) outcome
in_front-more front tree (Parsed rest height to) = ap (λ (l : List Param). Parsed l 0 to) (sym (append_assoc front (tree ∷ []) rest))
in_front-more front tree (Unreadable at) = refl
in_front-more front tree (TooHigh at) = refl

module _ (tokens : List Token) where
  -- the parameters so far, and what goes on after them
  abbrev pub parameters_on : List Param → (at turns : ℕ) → ParseOutcome (List Param)
  parameters_on front at turns =
      cond (is_mark marks.Comma (kind_at tokens at)) (in_front front (parameter_list_at tokens turns (at + 1)))
      (expect tokens marks.RightParen at (Parsed front 0 (at + 1)))

  -- the first parameter
  pub parameters-first : (list : List Param) (p : ℕ) (tree : Param) (height at : ℕ) → parameter_at tokens p ≡ Parsed tree height at → list ≡ tree ∷ [] →
      parameter_list_at tokens (length tokens + 1) p ≡ parameters_on list at (length tokens)
  unfolding parameter_list_at
  parameters-first list p tree height at is list_is =
      let less : length tokens + 1 - 1 ≡ length tokens = omega arith in
      turn (length tokens + 1) (omega arith) ∙ ap (λ n. parameters_on (tree ∷ []) at n) less ∙ ap (λ (l : List Param). parameters_on l at (length tokens)) (sym list_is)
    where
      rest_of : ℕ → Param → ℕ → ParseOutcome (List Param)
      rest_of turns tree at =
          cond (is_mark marks.Comma (kind_at tokens at)) (after (parameter_list_at tokens turns (at + 1)) (λ rest other to. Parsed (tree ∷ rest) 0 to))
          (expect tokens marks.RightParen at (Parsed (tree ∷ []) 0 (at + 1)))

      turn : (turns : ℕ) → 1 ≤ turns → parameter_list_at tokens turns p ≡ parameters_on (tree ∷ []) at (turns - 1)
      turn zero some = absurd (omega arith)
      turn (suc turns) some =
          let less : turns ≡ suc turns - 1 = omega arith in
          ap (λ (o : ParseOutcome Param). after o (λ t h q. rest_of turns t q)) is ∙ ap (λ n. parameters_on (tree ∷ []) at n) less

  -- one parameter more
  parameters-turn : (front : List Param) (turns p : ℕ) (tree : Param) (height at : ℕ) → 1 ≤ turns → parameter_at tokens p ≡ Parsed tree height at →
      in_front front (parameter_list_at tokens turns p) ≡ parameters_on (front ++ tree ∷ []) at (turns - 1)
  unfolding parameter_list_at
  parameters-turn front zero p tree height at some is = absurd (omega arith)
  parameters-turn front (suc turns) p tree height at some is =
      let less : turns ≡ suc turns - 1 = omega arith in
      ap (λ (o : ParseOutcome Param). in_front front (after o (λ t h q.
      cond (is_mark marks.Comma (kind_at tokens q)) (after (parameter_list_at tokens turns (q + 1)) (λ rest other to. Parsed (t ∷ rest) 0 to))
      (expect tokens marks.RightParen q (Parsed (t ∷ []) 0 (q + 1)))))) is
      ∙ by (is_mark marks.Comma (kind_at tokens at)) (is_mark marks.RightParen (kind_at tokens at))
      ∙ ap (λ n. parameters_on (front ++ tree ∷ []) at n) less
    where
      by : (comma last : Bool) →
          in_front front (cond comma (after (parameter_list_at tokens turns (at + 1)) (λ rest other to. Parsed (tree ∷ rest) 0 to))
          (cond last (Parsed (tree ∷ []) 0 (at + 1)) (Unreadable at)))
          ≡ cond comma (in_front (front ++ tree ∷ []) (parameter_list_at tokens turns (at + 1)))
          (cond last (Parsed (front ++ tree ∷ []) 0 (at + 1)) (Unreadable at))
      by true last = in_front-more front tree (parameter_list_at tokens turns (at + 1))
      by false true = refl
      by false false = refl

  -- a parameter that fails
  parameters-fail : (turns p : ℕ) (failure : Failure) → 1 ≤ turns → FailsParsing failure (parameter_at tokens p) → FailsParsing failure (parameter_list_at tokens turns p)
  unfolding parameter_list_at
  parameters-fail zero p failure some fails = absurd (omega arith)
  parameters-fail (suc turns) p failure some fails = fails-after failure (parameter_at tokens p) _ fails

  pub parameters-fail_first : (p : ℕ) (failure : Failure) → FailsParsing failure (parameter_at tokens p) → FailsParsing failure (parameter_list_at tokens (length tokens + 1) p)
  parameters-fail_first p failure fails = parameters-fail (length tokens + 1) p failure (omega arith) fails

  module _ (whole : ParseOutcome (List Param)) (front : List Param) (at turns : ℕ) (same : whole ≡ parameters_on front at turns)
      (comma : is_mark marks.Comma (kind_at tokens at) ≡ true) where
    on_comma : whole ≡ in_front front (parameter_list_at tokens turns (at + 1))
    on_comma = same ∙ ap (λ t. cond t (in_front front (parameter_list_at tokens turns (at + 1))) (expect tokens marks.RightParen at (Parsed front 0 (at + 1)))) comma

    -- one parameter more in the loop
    pub parameters-more : (list : List Param) (tree : Param) (height to : ℕ) → 1 ≤ turns →
        parameter_at tokens (at + 1) ≡ Parsed tree height to → list ≡ front ++ tree ∷ [] → whole ≡ parameters_on list to (turns - 1)
    parameters-more list tree height to some is list_is =
        on_comma ∙ parameters-turn front turns (at + 1) tree height to some is ∙ ap (λ (l : List Param). parameters_on l to (turns - 1)) (sym list_is)

    -- a failure of a parameter in the loop
    pub parameters-fail_more : (failure : Failure) → 1 ≤ turns → FailsParsing failure (parameter_at tokens (at + 1)) → FailsParsing failure whole
    parameters-fail_more failure some fails =
        subst (λ (o : ParseOutcome (List Param)). FailsParsing failure o) (sym on_comma)
        (fails-after failure (parameter_list_at tokens turns (at + 1)) _ (parameters-fail turns (at + 1) failure some fails))

-- ---- functions

-- the list of one more function, as the code pushes it
pub pushed : (front list : List Function) (tree : Function) → list ≡ front ++ tree ∷ [] → map function_of list ≡ map function_of front ++ function_of tree ∷ []
pushed front list tree is = ap (λ (l : List Function). map function_of l) is ∙ mapped front
  where
    mapped : (front : List Function) → map function_of (front ++ tree ∷ []) ≡ map function_of front ++ function_of tree ∷ []
    mapped [] = refl
    mapped (first ∷ others) = ap (λ (l : List UnitFunction). function_of first ∷ l) (mapped others)

-- a unit that is read, after the functions before it
abbrev pub after_functions : List UnitFunction → ℕ → ParseOutcome TranslationUnit → ParseOutcome TranslationUnit
after_functions front height outcome = after outcome (λ unit other to. Parsed (record { functions = front ++ unit.functions; main = unit.main }) (max height other) to)

pub functions-start : (outcome : ParseOutcome TranslationUnit) → outcome ≡ after_functions [] 0 outcome
functions-start (Parsed unit other to) = let same : other ≡ max 0 other = omega arith in ap (λ n. Parsed unit n to) same
functions-start (Unreadable at) = refl
functions-start (TooHigh at) = refl

functions-one : (front : List UnitFunction) (height raised : ℕ) (function : UnitFunction) (outcome : ParseOutcome TranslationUnit) →
    after_functions front height (after outcome (λ unit other to. Parsed (with_function function unit) (max raised other) to))
    ≡ after_functions (front ++ function ∷ []) (max height raised) outcome
functions-one front height raised function (Parsed unit other to) =
    let same : max height (max raised other) ≡ max (max height raised) other = omega arith in
    ap (λ n. Parsed (record { functions = front ++ function ∷ unit.functions; main = unit.main }) n to) same
    ∙ ap (λ (l : List UnitFunction). Parsed (record { functions = l; main = unit.main }) (max (max height raised) other) to) (sym (append_assoc front (function ∷ []) unit.functions))
functions-one front height raised function (Unreadable at) = refl
functions-one front height raised function (TooHigh at) = refl

module _ (tokens : List Token) (budget : ℕ) where
  -- before the first function
  pub functions-init : (list : List UnitFunction) → list ≡ [] → unit_at tokens budget ≡ after_functions list 0 (functions_at tokens budget (length tokens + 1) 0)
  unfolding unit_at
  functions-init list is =
      functions-start (functions_at tokens budget (length tokens + 1) 0) ∙ ap (λ (l : List UnitFunction). after_functions l 0 (functions_at tokens budget (length tokens + 1) 0)) (sym is)

  -- where a function begins, it is read
  named : (turns p symbol : ℕ) → 1 ≤ turns → function_name (kind_at tokens p) (kind_at tokens (p + 1)) ≡ Some symbol →
      functions_at tokens budget turns p ≡ functions_on tokens budget (functions_at tokens budget (turns - 1)) (Some symbol) p
  unfolding functions_at
  named zero p symbol some is = absurd (omega arith)
  named (suc turns) p symbol some is = let less : turns ≡ suc turns - 1 = omega arith in
      by (is_key keys.Int (kind_at tokens p)) refl ∙ ap (λ n. functions_on tokens budget (functions_at tokens budget n) (Some symbol) p) less
    where
      by : (t : Bool) → is_key keys.Int (kind_at tokens p) ≡ t →
          expect_key tokens keys.Int p (functions_on tokens budget (functions_at tokens budget turns) (symbol_of (kind_at tokens (p + 1))) p)
          ≡ functions_on tokens budget (functions_at tokens budget turns) (Some symbol) p
      by true yes' =
          let name : symbol_of (kind_at tokens (p + 1)) ≡ Some symbol = sym (ap (λ t. cond t (symbol_of (kind_at tokens (p + 1))) None) yes') ∙ is in
          ap (λ t. cond t (functions_on tokens budget (functions_at tokens budget turns) (symbol_of (kind_at tokens (p + 1))) p) (Unreadable p)) yes'
          ∙ ap (λ s. functions_on tokens budget (functions_at tokens budget turns) s p) name
      by false no' = let bad : None ≡ Some symbol = sym (ap (λ t. cond t (symbol_of (kind_at tokens (p + 1))) None) no') ∙ is in cc

  -- and else `main` alone
  unnamed : (turns p : ℕ) → 1 ≤ turns → function_name (kind_at tokens p) (kind_at tokens (p + 1)) ≡ None →
      functions_at tokens budget turns p ≡ expect_key tokens keys.Int p (main_alone tokens budget (p + 1))
  unfolding functions_at functions_on
  unnamed zero p some is = absurd (omega arith)
  unnamed (suc turns) p some is = by (is_key keys.Int (kind_at tokens p)) refl
    where
      by : (t : Bool) → is_key keys.Int (kind_at tokens p) ≡ t →
          expect_key tokens keys.Int p (functions_on tokens budget (functions_at tokens budget turns) (symbol_of (kind_at tokens (p + 1))) p)
          ≡ expect_key tokens keys.Int p (main_alone tokens budget (p + 1))
      by true yes' =
          let none : symbol_of (kind_at tokens (p + 1)) ≡ None = sym (ap (λ t. cond t (symbol_of (kind_at tokens (p + 1))) None) yes') ∙ is in
          ap (λ s. expect_key tokens keys.Int p (functions_on tokens budget (functions_at tokens budget turns) s p)) none
      by false no' =
          ap (λ t. cond t (functions_on tokens budget (functions_at tokens budget turns) (symbol_of (kind_at tokens (p + 1))) p) (Unreadable p)) no'
          ∙ sym (ap (λ t. cond t (main_alone tokens budget (p + 1)) (Unreadable p)) no')

  module _ (whole : ParseOutcome TranslationUnit) (front : List UnitFunction) (height turns p : ℕ) (same : whole ≡ after_functions front height (functions_at tokens budget turns p))
      (some : 1 ≤ turns) where
    -- one function more
    pub functions-more : (list : List UnitFunction) (symbol : ℕ) (function : UnitFunction) (raised at joined : ℕ) → function_name (kind_at tokens p) (kind_at tokens (p + 1)) ≡ Some symbol →
        function_at tokens budget symbol p ≡ Parsed function raised at → list ≡ front ++ function ∷ [] → joined ≡ max height raised →
        whole ≡ after_functions list joined (functions_at tokens budget (turns - 1) at)
    unfolding functions_on
    functions-more list symbol function raised at joined name is list_is high =
        same ∙ ap (after_functions front height) (named turns p symbol some name) ∙
        ap (λ o. after_functions front height (after o (λ function' h q.
        after (functions_at tokens budget (turns - 1) q) (λ unit other to. Parsed (with_function function' unit) (max h other) to)))) is ∙
        functions-one front height raised function (functions_at tokens budget (turns - 1) at) ∙
        ap (λ (l : List UnitFunction). after_functions l (max height raised) (functions_at tokens budget (turns - 1) at)) (sym list_is) ∙
        ap (λ n. after_functions list n (functions_at tokens budget (turns - 1) at)) (sym high)

    -- a function that fails
    pub functions-fail : (symbol : ℕ) (failure : Failure) → function_name (kind_at tokens p) (kind_at tokens (p + 1)) ≡ Some symbol →
        FailsParsing failure (function_at tokens budget symbol p) → FailsParsing failure whole
    unfolding functions_on
    functions-fail symbol failure name fails =
        subst (λ o. FailsParsing failure o) (sym (same ∙ ap (after_functions front height) (named turns p symbol some name)))
        (fails-after failure _ _ (fails-after failure (function_at tokens budget symbol p) _ fails))

    module _ (none : function_name (kind_at tokens p) (kind_at tokens (p + 1)) ≡ None) where
      at_end : whole ≡ after_functions front height (expect_key tokens keys.Int p (main_alone tokens budget (p + 1)))
      at_end = same ∙ ap (after_functions front height) (unnamed turns p some none)

      -- no `int`
      functions-no_int : is_key keys.Int (kind_at tokens p) ≡ false → whole ≡ Unreadable p
      functions-no_int no' = at_end ∙ ap (λ t. after_functions front height (cond t (main_alone tokens budget (p + 1)) (Unreadable p))) no'

      pub functions-fail_int : (failure : Failure) → failure ≡ failures.Syntax p → is_key keys.Int (kind_at tokens p) ≡ false → FailsParsing failure whole
      functions-fail_int failure is no' = subst (λ f. FailsParsing f whole) (sym is) (functions-no_int no')

      on_int : is_key keys.Int (kind_at tokens p) ≡ true → whole ≡ after_functions front height (main_alone tokens budget (p + 1))
      on_int yes' = at_end ∙ ap (λ t. after_functions front height (cond t (main_alone tokens budget (p + 1)) (Unreadable p))) yes'

      -- a `main` that fails, and one that is read
      pub functions-fail_main : (failure : Failure) → is_key keys.Int (kind_at tokens p) ≡ true → FailsParsing failure (main_at tokens Allowed budget (p + 1)) → FailsParsing failure whole
      unfolding main_alone
      functions-fail_main failure yes' fails = subst (λ o. FailsParsing failure o) (sym (on_int yes')) (fails-after failure _ _ (fails-after failure (main_at tokens Allowed budget (p + 1)) _ fails))

      pub functions-main : (items : UnitList) (raised to joined : ℕ) → is_key keys.Int (kind_at tokens p) ≡ true → main_at tokens Allowed budget (p + 1) ≡ Parsed items raised to →
          joined ≡ max height raised → whole ≡ Parsed (record { functions = front; main = items }) joined to
      unfolding main_alone
      functions-main items raised to joined yes' is high =
          on_int yes' ∙ ap (λ o. after_functions front height (after o (λ items' h q. Parsed (record { functions = []; main = items' }) h q))) is ∙
          ap (λ (l : List UnitFunction). Parsed (record { functions = l; main = items }) (max height raised) to) (nothing-after front) ∙
          ap (λ n. Parsed (record { functions = front; main = items }) n to) (sym high)
        where
          nothing-after : (l : List UnitFunction) → l ++ [] ≡ l
          nothing-after [] = refl
          nothing-after (first ∷ rest) = ap (λ (t : List UnitFunction). first ∷ t) (nothing-after rest)
