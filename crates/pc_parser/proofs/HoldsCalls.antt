-- What the parser of calls gives is what the grammar reads.
use Rattle.std.proofs.Common.{◌≡◌, refl, ℕ, zero, suc, ◌+◌, ◌-◌, ◌<◌, ◌≤◌, List, length, arith}
use Rattle.std.specs.Prelude.{Option, Some, None}
use Rattle.pc_lexer.specs.declared.token.Token.{Token}
use Rattle.pc_lexer.specs.declared.mark.Mark.TheVariants as marks
use Rattle.pc_syntax.specs.declared.unit.Target.{Target}
use Rattle.pc_syntax.specs.Source.{SourceExpression}
use Rattle.pc_syntax.specs.Unit.{UnitStatement, Call}
use Rattle.pc_parser.specs.declared.calls.Calls.{Calls}
use Rattle.pc_parser.specs.declared.calls.Calls.TheVariants.{Allowed, Refused}
use Rattle.pc_parser.specs.Places.{kind_at, line_at}
use Rattle.pc_parser.specs.Calls.{ReadsArgumentList, ReadsArguments, ReadsCall}
use Rattle.pc_parser.specs.models.Tests.{symbol_of}
use Rattle.pc_parser.specs.models.Outcome.{ParseOutcome, Parsed, Unreadable, TooHigh}
use Rattle.pc_parser.specs.models.ExpressionParser.{expression_at}
use Rattle.pc_parser.specs.models.CallParser.{called, behind_name, settled_at, argument_list_at, arguments_at, call_at, value_at, value_or_call, right_side_at}
use Rattle.pc_parser.proofs.Names.{symbol-is, called-is}
use Rattle.pc_parser.proofs.Onward.{inside}
use Rattle.pc_parser.proofs.Holds.{Good, after-good, allowed-good, expect-good, on_mark-good}
use Rattle.pc_parser.proofs.HoldsExpressions.{Sound, expression_at-holds}

module _ (tokens : List Token) where
  -- arguments of at most the budget's height, and not higher than they are long
  record IsArgumentList (b p : ℕ) (t : List SourceExpression) (h q : ℕ) : Type 0 where
    pub reads : ReadsArgumentList tokens p t h q
    pub low : h ≤ b
    pub long : h + p ≤ q
    pub within : q ≤ length tokens

  pub record AreArguments (b p : ℕ) (t : List SourceExpression) (h q : ℕ) : Type 0 where
    pub reads : ReadsArguments tokens p t h q
    pub low : h ≤ b
    pub long : h + p ≤ q
    pub within : q ≤ length tokens

  argument_list_at-holds : (b n p : ℕ) → p ≤ length tokens → Good (length tokens) (b + p) (IsArgumentList b p) (argument_list_at tokens b n p)
  unfolding argument_list_at
  argument_list_at-holds b zero p within = within
  argument_list_at-holds b (suc n) p within =
      after-good (length tokens) (b + p) (b + p) (Sound tokens b 0 p) (IsArgumentList b p) (expression_at tokens b 0 p) _ (omega arith)
      (expression_at-holds tokens b 0 p (omega arith) within) (λ t h q sound.
      let size = sound.size in let a = size.low in let l = size.long in
      on_mark-good tokens (b + p) marks.Comma q (IsArgumentList b p) _ _
      (λ comma below'. after-good (length tokens) (b + p) (b + (q + 1)) (IsArgumentList b (q + 1)) (IsArgumentList b p) (argument_list_at tokens b n (q + 1)) _
      (omega arith) (argument_list_at-holds b n (q + 1) (omega arith)) (λ rest j to others.
      let low' = others.low in let long' = others.long in
      record { reads = ReadsArgumentList.comma (sound.whole refl) comma others.reads; low = omega arith; long = omega arith; within = others.within }))
      (λ no'. expect-good tokens (b + p) marks.RightParen q (IsArgumentList b p) _ size.within
      (λ close' below'. record { reads = ReadsArgumentList.last (sound.whole refl) close'; low = a; long = omega arith; within = omega arith })))

  arguments_at-holds : (b p : ℕ) → p ≤ length tokens → Good (length tokens) (b + p) (AreArguments b p) (arguments_at tokens b p)
  unfolding arguments_at
  arguments_at-holds b p within =
      on_mark-good tokens (b + p) marks.RightParen p (AreArguments b p) _ _
      (λ close' below'. record { reads = ReadsArguments.none close'; low = omega arith; long = omega arith; within = omega arith })
      (λ no'. after-some (argument_list_at tokens b (length tokens + 1) p) (argument_list_at-holds b (length tokens + 1) p within))
    where
      after-some : (o : ParseOutcome (List SourceExpression)) → Good (length tokens) (b + p) (IsArgumentList b p) o → Good (length tokens) (b + p) (AreArguments b p) o
      after-some (Parsed t h q) good = record { reads = ReadsArguments.some good.reads; low = good.low; long = good.long; within = good.within }
      after-some (Unreadable at) good = good
      after-some (TooHigh at) good = good

  module _ (P : UnitStatement → ℕ → ℕ → Type 0) (late b : ℕ) where
    pub call_at-holds : (line : ℕ) (target : Option Target) (function at p : ℕ) → late ≤ b - 1 + p → p ≤ length tokens →
        ((arguments : List SourceExpression) (h q : ℕ) → AreArguments (b - 1) p arguments h q → P (Call line target function at arguments) (h + 1) q) →
        Good (length tokens) late P (call_at tokens b line target function at p)
    unfolding call_at
    call_at-holds line target function at p lateness within each =
        after-good (length tokens) late (b - 1 + p) (AreArguments (b - 1) p) P (arguments_at tokens (b - 1) p) _ lateness (arguments_at-holds (b - 1) p within) each

    -- the place where it shows that no call stands there
    settled-inside : (calls : Calls) (at from : ℕ) → from ≡ at + 1 → at < length tokens →
        (at ≤ settled_at calls (kind_at tokens from) at from) × (settled_at calls (kind_at tokens from) at from ≤ length tokens)
    unfolding settled_at
    settled-inside Refused at from onward below' = (omega arith, omega arith)
    settled-inside Allowed at from onward below' = by (symbol_of (kind_at tokens from)) refl
      where
        by : (symbol : Option ℕ) → symbol_of (kind_at tokens from) ≡ symbol → (at ≤ behind_name symbol from) × (behind_name symbol from ≤ length tokens)
        by None found = (omega arith, omega arith)
        by (Some symbol) found = let within = inside tokens from _ (symbol-is (kind_at tokens from) symbol found) in (omega arith, omega arith)

    -- an expression behind `=`, for which the budget is high enough
    record IsValue (from : ℕ) (t : SourceExpression) (h q : ℕ) : Type 0 where
      pub some : 2 ≤ b
      pub sound : Sound tokens (b - 1) 0 from t h q

    value_at-holds : (settled from : ℕ) → late ≤ b - 1 + from → late ≤ b - 1 + settled + 1 → settled ≤ length tokens → from ≤ length tokens →
        Good (length tokens) late (IsValue from) (value_at tokens b settled from)
    unfolding value_at
    value_at-holds settled from lateness later inside' within =
        allowed-good (length tokens) late 2 b settled (IsValue from) _ (λ high. omega arith) inside' (λ low.
        with_low low (expression_at tokens (b - 1) 0 from) (expression_at-holds tokens (b - 1) 0 from (omega arith) within))
      where
        with_low : 2 ≤ b → (o : ParseOutcome SourceExpression) → Good (length tokens) (b - 1 + from) (Sound tokens (b - 1) 0 from) o → Good (length tokens) late (IsValue from) o
        with_low low (Parsed t h q) good = record { some = low; sound = good }
        with_low low (Unreadable at') good = good
        with_low low (TooHigh at') good = let a = good.0 in (omega arith, good.1)

    pub right_side_at-holds : (calls : Calls) (target : Target) (at from : ℕ) (rest : SourceExpression → (height to : ℕ) → ParseOutcome UnitStatement) → from ≡ at + 1 →
        late ≤ b - 1 + at → at < length tokens →
        (calls ≡ Allowed → (function : ℕ) (arguments : List SourceExpression) (h q : ℕ) → ReadsCall tokens from function arguments h q → AreArguments (b - 1) (from + 2) arguments h q →
        P (Call target.line (Some target) function (line_at tokens from) arguments) (h + 1) q) →
        ((t : SourceExpression) (h q : ℕ) → 2 ≤ b → Sound tokens (b - 1) 0 from t h q → Good (length tokens) late P (rest t h q)) →
        Good (length tokens) late P (right_side_at tokens b calls target at from rest)
    unfolding right_side_at value_or_call
    right_side_at-holds calls target at from rest onward lateness below' call each = by (called calls (kind_at tokens from) (kind_at tokens (from + 1))) refl
      where
        by : (function : Option ℕ) → called calls (kind_at tokens from) (kind_at tokens (from + 1)) ≡ function →
            Good (length tokens) late P (value_or_call tokens b target (settled_at calls (kind_at tokens from) at from) from rest function)
        by None found =
            let w = settled-inside calls at from onward below' in let w0 = w.0 in
            after-good (length tokens) late late (IsValue from) P (value_at tokens b (settled_at calls (kind_at tokens from) at from) from) rest (omega arith)
            (value_at-holds (settled_at calls (kind_at tokens from) at from) from (omega arith) (omega arith) w.1 (omega arith)) (λ t h q value. each t h q value.some value.sound)
        by (Some function) found =
            let w = called-is calls (kind_at tokens from) (kind_at tokens (from + 1)) function found in
            let within = inside tokens (from + 1) _ w.2 in
            call_at-holds target.line (Some target) function (line_at tokens from) (from + 2) (omega arith) (omega arith)
            (λ arguments h q given. call w.0 function arguments h q (ReadsCall.call w.1 w.2 given.reads) given)
