use Rattle.std.proofs.Common.{ℕ, List, take, get_or, subst, arith}
use Rattle.std.proofs.lemmas.List.{take_more, take_all}
use Rattle.pc_cycles.proofs.Frequencies.{IsGreatestSoFar, one_more_seen, greatest_at_last}
use Rattle.pc_cycles.proofs.frequency.greatest_count.Goals as goal

pub loop-number-preserved : goal.loop-number-preserved
loop-number-preserved c =
    let numbers = c.args.numbers.now in
    let at = c.loop-number.number-index in
    let next =
    one_more_seen numbers (take at numbers) c.loop-number.most (get_or numbers at 0) c.count.result c.loop-number.invariant c.count.ensures in
    rw (c.max-most.ensures, take_more numbers at 0 c.loop-number-test.true) next

pub returns : goal.returns
returns c =
    let numbers = c.args.numbers.now in
    let ended = c.loop-number-test.false in
    greatest_at_last numbers c.loop-number.most
    (subst (λ (seen : List ℕ). IsGreatestSoFar numbers seen c.loop-number.most) (take_all c.loop-number.number-index numbers (omega (arith, ended))) c.loop-number.invariant)
