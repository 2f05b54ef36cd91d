use Rattle.std.proofs.lemmas.List.{take_rest}
use Rattle.std.proofs.Common.{◌+◌, ap, w32, arith}
use Rattle.std.proofs.lemmas.Int.{to_z_pos}
use Rattle.pc_lexer.proofs.Begun.{number_measured, number_misspelt}
use Rattle.pc_lexer.proofs.piece.number.Goals as goal

pub returns-in-Some : goal.returns-in-Some
returns-in-Some c =
    number_measured c.args.text.now c.in-Some.value _ _ c.in-Some.ensures.value
    (ap (λ n. 1 + n) (rw take_rest at c.number_length-length.ensures.value))
    (to_z_pos w32 c.in-Some.value (omega (arith, c.in-Some.ensures.bound)))

pub returns-in-None : goal.returns-in-None
returns-in-None c =
    number_misspelt c.args.text.now _ c.in-None.ensures.value (ap (λ n. 1 + n) (rw take_rest at c.number_length-length.ensures.value))
