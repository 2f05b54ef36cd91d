use Rattle.std.proofs.Common.{◌≡◌, ℕ, ◌+◌, ◌-◌, ◌<◌, ◌≤◌, length}
use Rattle.pc_parser.specs.models.StatementParser.{constants_at}
use Rattle.pc_parser.proofs.Constants.{constants_on}
use Rattle.pc_parser.proofs.arrays.constants.Given as goal

-- the constants so far, and what goes on after them, are what is read from the beginning
abbrev pub invariant-loop-values : goal.invariant-loop-values
invariant-loop-values l = record {
  turns : ℕ;
  enough : length l.tokens < l.next + 1 + turns;
  same : constants_at l.tokens (length l.tokens + 1) l.place ≡ constants_on l.tokens l.values l.next turns;
  inside : l.next ≤ length l.tokens;
  further : l.place < l.next;
}

abbrev pub decreases-loop-values : goal.decreases-loop-values
decreases-loop-values l = length l.tokens - l.next
