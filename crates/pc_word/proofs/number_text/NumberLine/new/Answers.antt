-- The digits have room, and the sign stands before them.
use Rattle.std.proofs.Common.{◌≡◌, ◌+◌, ◌-◌, [], ◌∷◌, ◌++◌, List, ℕ, arith, append-nil, ap, w32}
use Rattle.std.proofs.lemmas.Fmt.{length-decimal-le}
use Rattle.std.proofs.lemmas.Int.{to_z-of_z}
use Rattle.std.proofs.lemmas.List.{drop-set}
use Rattle.pc_word.proofs.NumberTexts.{minus_before}
use Rattle.pc_word.proofs.number_text.NumberLine.new.Goals as goal

pub write_digits-digits-requires : goal.write_digits-digits-requires
write_digits-digits-requires c = (omega (arith, length-decimal-le 10 c.from.result (omega arith) (omega arith) (omega arith)), omega arith)

pub overflow_sub-bytes : goal.overflow_sub-bytes
overflow_sub-bytes c = omega (arith, length-decimal-le 10 c.from.result (omega arith) (omega arith) (omega arith))

pub overflow_sub-result : goal.overflow_sub-result
overflow_sub-result c = omega (arith, length-decimal-le 10 c.from.result (omega arith) (omega arith) (omega arith))

pub returns : goal.returns
returns c =
    let w = c.write_digits-digits in
    let long = length-decimal-le 10 c.from.result (omega arith) (omega arith) (omega arith) in
    let e : w.result - 1 + 1 ≡ w.result = omega arith in
    let back = to_z-of_z w32 c.args.number c.ranges.number in
    rw (append-nil, drop-set w.new.buf (w.result - 1) 45 (omega arith), e, w.ensures.written, c.from.ensures, c.unsigned_abs.ensures.value, back)
    (ap (λ (l : List ℕ). l ++ 10 ∷ []) (minus_before c.args.number (rw back at c.if-number-ge0.false)))
