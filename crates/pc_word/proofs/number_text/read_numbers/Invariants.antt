use Rattle.std.proofs.Common.{◌≡◌, ◌≤◌, ◌-◌, true, length, drop}
use Rattle.pc_word.specs.NumberText.{numbers_from, numbers_in}
use Rattle.pc_word.proofs.NumberTexts.{numbers_after}
use Rattle.pc_word.proofs.number_text.read_numbers.Given as goal

abbrev pub invariant-loop-at : goal.invariant-loop-at
invariant-loop-at l = (l.at ≤ length l.bytes) × (numbers_in l.bytes ≡ numbers_after l.numbers (numbers_from l.at true (drop l.at l.bytes)))

abbrev pub decreases-loop-at : goal.decreases-loop-at
decreases-loop-at l = length l.bytes - l.at
