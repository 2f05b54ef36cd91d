use Rattle.std.proofs.Common.{◌≡◌, ◌∙◌, arith, w32, to_z, of_z, ◌%◌}
use Rattle.std.specs.Int.{cast_unsigned, int_shl}
use Rattle.std.proofs.lemmas.Int.{ints}
use Rattle.pc_word.proofs.Words.{word_shl-bits}
use Rattle.pc_word.proofs.word.shl.Goals as goal

pub returns : goal.returns
returns c =
    let same : to_z w32 (of_z w32 c.wrapping_shl.result) ≡ int_shl w32 c.args.a (cast_unsigned w32 c.args.b % 32) = grind (arith, ints) in
    same ∙ word_shl-bits c.args.a c.args.b c.ranges.a
