use Rattle.std.proofs.Common.{◌≡◌, ◌+◌, drop, false}
use Rattle.pc_lexer.specs.Number.{number_length}
use Rattle.pc_lexer.proofs.number.number_length.Given as goal

-- each byte before `at` belongs to the number
abbrev pub invariant-loop-at : goal.invariant-loop-at
invariant-loop-at l = l.at + number_length l.exponent (drop l.at l.text) ≡ number_length false l.text
