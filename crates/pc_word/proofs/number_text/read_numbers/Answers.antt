-- Before the text nothing is read, and each word adds its number.
use Rattle.std.proofs.Common.{ℕ, true, ◌≤◌, ◌+◌, List, [], ◌∷◌, ◌++◌, length, drop, arith, rules, length-drop, ap, sym, ◌∙◌, ℤ, w32, FitsSigned}
use Rattle.std.proofs.lemmas.Int.{to_z-of_z}
use Rattle.pc_word.specs.NumberText.{numbers_from, first_word}
use Rattle.pc_word.proofs.NumberTexts.{numbers_after, numbers_in-begin, numbers_in-more, take-left}
use Rattle.pc_word.proofs.number_text.read_numbers.Goals as goal

pub loop-at-init : goal.loop-at-init
loop-at-init c = (omega arith, rw c.new-numbers.ensures (numbers_in-begin c.args.bytes.now))

pub loop-at-preserved : goal.loop-at-preserved
loop-at-preserved c =
    let bytes = c.args.bytes.now in
    let place = c.loop-at.at in
    let number = c.in-Some.number in
    let numbers = c.loop-at.numbers in
    let word = c.first_word-word.result.now in
    let fits : FitsSigned w32 number = search rules in
    let left = take-left bytes place in
    let is_word = c.first_word-word.ensures.word ∙ ap (λ (l : List ℕ). first_word l) left in
    let within : place + length word ≤ length bytes = omega (arith, c.first_word-word.ensures.within, ap length left, length-drop place bytes) in
    let more = numbers_in-more bytes place numbers number word c.loop-at-test.true (sym c.if-is_separator.ensures) is_word c.in-Some.ensures c.loop-at.invariant.1 in
    let pushed = c.in_ok-push-in-Some.ensures.ok ∙ ap (λ (n : ℤ). numbers ++ n ∷ []) (to_z-of_z w32 number fits) in
    (within, more ∙ ap (λ (l : List ℤ). numbers_after l (numbers_from (place + length word) true (drop (place + length word) bytes))) (sym pushed))
