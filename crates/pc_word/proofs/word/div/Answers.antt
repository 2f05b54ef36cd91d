-- The quotient that the code takes is the definition's, also where it wraps.
use Rattle.std.proofs.Common.{◌≢◌, ◌∙◌, sym, ap, rules, w32, pos, FitsSigned}
use Rattle.std.specs.Prelude.{int_div}
use Rattle.std.specs.Int.{cast_signed, cast_unsigned}
use Rattle.std.proofs.lemmas.Int.{to_z-of_z}
use Rattle.pc_word.proofs.Words.{word_div-bits}
use Rattle.pc_word.proofs.word.div.Goals as goal

pub returns-else-b-eq0 : goal.returns-else-b-eq0
returns-else-b-eq0 c =
    let a = c.args.a in
    let b = c.args.b in
    let fits : FitsSigned w32 c.wrapping_div.result = search rules in
    let nonzero : b ≢ pos 0 = λ e. c.if-b-eq0.false (ap (λ z. cast_unsigned w32 z) e) in
    to_z-of_z w32 c.wrapping_div.result fits ∙ c.wrapping_div.ensures
    ∙ ap (λ z. cast_signed w32 (cast_unsigned w32 (int_div z (cast_signed w32 (cast_unsigned w32 b))))) (to_z-of_z w32 a c.ranges.a)
    ∙ ap (λ z. cast_signed w32 (cast_unsigned w32 (int_div a z))) (to_z-of_z w32 b c.ranges.b)
    ∙ sym (word_div-bits a b c.ranges.a nonzero)
