use Rattle.std.proofs.Common.{◌≡◌, ℕ, ◌+◌, ◌-◌, ◌<◌, ◌≤◌, length}
use Rattle.std.specs.Prelude.{map}
use Rattle.pc_syntax.specs.Erasure.{expression_of}
use Rattle.pc_parser.specs.models.CallParser.{argument_list_at}
use Rattle.pc_parser.proofs.Arguments.{arguments_on}
use Rattle.pc_parser.proofs.call.argument_list.Given as goal

-- the arguments so far, and what goes on after them, are what is read from the beginning
abbrev pub invariant-loop-alloc : goal.invariant-loop-alloc
invariant-loop-alloc l = record {
  turns : ℕ;
  enough : length l.tokens < l.next + 1 + turns;
  same : argument_list_at l.tokens l.budget (length l.tokens + 1) l.place ≡ arguments_on l.tokens l.budget (map expression_of l.arguments) l.height l.next turns;
  low : l.height ≤ l.budget;
  inside : l.next ≤ length l.tokens;
}

abbrev pub decreases-loop-alloc : goal.decreases-loop-alloc
decreases-loop-alloc l = length l.tokens - l.next
