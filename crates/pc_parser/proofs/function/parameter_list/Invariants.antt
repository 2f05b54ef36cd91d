use Rattle.std.proofs.Common.{◌≡◌, ℕ, ◌+◌, ◌-◌, ◌<◌, ◌≤◌, length}
use Rattle.pc_parser.specs.models.UnitParser.{parameter_list_at}
use Rattle.pc_parser.proofs.Functions.{parameters_on}
use Rattle.pc_parser.proofs.function.parameter_list.Given as goal

-- the parameters so far, and what goes on after them, are what is read from the beginning
abbrev pub invariant-loop-params : goal.invariant-loop-params
invariant-loop-params l = record {
  turns : ℕ;
  enough : length l.tokens < l.next + 1 + turns;
  same : parameter_list_at l.tokens (length l.tokens + 1) l.place ≡ parameters_on l.tokens l.params l.next turns;
  inside : l.next ≤ length l.tokens;
  further : l.place < l.next;
}

abbrev pub decreases-loop-params : goal.decreases-loop-params
decreases-loop-params l = length l.tokens - l.next
