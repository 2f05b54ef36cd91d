use Rattle.std.proofs.Common.{◌≡◌, ℕ, ◌+◌, ◌-◌, ◌*◌, ◌<◌, ◌≤◌, length}
use Rattle.pc_syntax.specs.UnitErasure.{unit_list_of}
use Rattle.pc_parser.specs.models.StatementParser.{items_at, statement_below}
use Rattle.pc_parser.proofs.Lists.{gathered}
use Rattle.pc_parser.proofs.+statement.Given as goal

abbrev pub decreases-statement::statement : goal.decreases-statement::statement
decreases-statement::statement l = 8 * l.budget + 7

abbrev pub decreases-statement::keyed : goal.decreases-statement::keyed
decreases-statement::keyed l = 8 * l.budget + 6

abbrev pub decreases-statement::started : goal.decreases-statement::started
decreases-statement::started l = 8 * l.budget + 6

abbrev pub decreases-statement::block : goal.decreases-statement::block
decreases-statement::block l = 8 * l.budget + 5

abbrev pub decreases-statement::items : goal.decreases-statement::items
decreases-statement::items l = 8 * l.budget + 4

abbrev pub decreases-statement::item : goal.decreases-statement::item
decreases-statement::item l = 8 * l.budget + 3

abbrev pub decreases-statement::branch : goal.decreases-statement::branch
decreases-statement::branch l = 8 * l.budget + 5

abbrev pub decreases-statement::otherwise : goal.decreases-statement::otherwise
decreases-statement::otherwise l = 8 * l.budget + 4

abbrev pub decreases-loops::while_loop : goal.decreases-loops::while_loop
decreases-loops::while_loop l = 8 * l.budget + 0

abbrev pub decreases-loops::do_loop : goal.decreases-loops::do_loop
decreases-loops::do_loop l = 8 * l.budget + 0

abbrev pub decreases-loops::for_loop : goal.decreases-loops::for_loop
decreases-loops::for_loop l = 8 * l.budget + 5

abbrev pub decreases-loops::for_body : goal.decreases-loops::for_body
decreases-loops::for_body l = 8 * l.budget + 4

-- the items so far, and what is read after them, are what is read from the beginning
abbrev pub invariant-statement::items-loop-alloc : goal.invariant-statement::items-loop-alloc
invariant-statement::items-loop-alloc l = record {
  turns : ℕ;
  enough : length l.tokens < l.next + turns;
  same : items_at l.tokens l.calls (statement_below l.tokens l.calls l.budget) l.budget (length l.tokens + 1) l.place
      ≡ gathered (unit_list_of l.items) l.height (items_at l.tokens l.calls (statement_below l.tokens l.calls l.budget) l.budget turns l.next);
  low : l.height ≤ l.budget - 1;
  inside : l.next ≤ length l.tokens;
}

abbrev pub decreases-statement::items-loop-alloc : goal.decreases-statement::items-loop-alloc
decreases-statement::items-loop-alloc l = length l.tokens - l.next
