use Rattle.std.proofs.Common.{◌≡◌, ℕ, ◌+◌, ◌-◌, ◌<◌, ◌≤◌, length}
use Rattle.pc_syntax.specs.UnitErasure.{unit_list_of}
use Rattle.pc_parser.specs.models.StatementParser.{declarators_at}
use Rattle.pc_parser.specs.models.Parsing.{behind}
use Rattle.pc_parser.proofs.Lists.{continued}
use Rattle.pc_parser.proofs.declaration.declarators.Given as goal

-- the declarators so far, and what goes on after them, are what is read from the beginning
abbrev pub invariant-loop-alloc : goal.invariant-loop-alloc
invariant-loop-alloc l = record {
  turns : ℕ;
  enough : length l.tokens < l.next + 1 + turns;
  same : behind (unit_list_of l.fn.items) (declarators_at l.tokens l.calls l.budget l.storage (length l.tokens + 1) l.place) ≡ continued l.tokens l.calls l.budget l.storage
      (unit_list_of l.items) l.height l.next turns;
  low : l.height ≤ l.budget;
  inside : l.next ≤ length l.tokens;
  further : l.place < l.next;
}

abbrev pub decreases-loop-alloc : goal.decreases-loop-alloc
decreases-loop-alloc l = length l.tokens - l.next
