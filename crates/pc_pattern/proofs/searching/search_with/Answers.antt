use Rattle.pc_table.specs.StoredTable.{table_of}
use Rattle.pc_pattern.proofs.Patterns.{patterns_are_automata, are_found}
use Rattle.pc_pattern.proofs.Turns.{room_of}
use Rattle.pc_pattern.specs.Pattern.{rules_for}
use Rattle.pc_pattern.proofs.searching.search_with.Goals as goal

pub unreachable-requires : goal.unreachable-requires
unreachable-requires g c =
    c.in-Err.ensures.1
    (patterns_are_automata (rules_for (table_of c.args.table.now) c.args.limits c.args.extent.window) c.args.table.now.kept (room_of c.args.limits c.requires.limits)
    c.args.region c.args.extent.rows _ c.in_ok-states.ensures.recorded.pattern)

pub returns-clause-found : goal.returns-clause-found
returns-clause-found g c =
    are_found (rules_for (table_of c.args.table.now) c.args.limits c.args.extent.window) c.args.table.now.kept (room_of c.args.limits c.requires.limits) c.args.region
    c.args.extent.rows _ (rw c.in-Ok.ensures.0 c.in_ok-states.ensures.recorded.pattern) (rw c.in-Ok.ensures.0 c.in_ok-states.ensures.led)
