use Rattle.std.proofs.Common.{List, length, ◌-◌}
use Rattle.std.specs.List.{AllByRecursion}
use Rattle.pc_table.specs.StoredTable.{table_of}
use Rattle.pc_window.specs.WindowRun.{Window}
use Rattle.pc_automaton.specs.Automaton.{states_in}
use Rattle.pc_pattern.specs.models.Pools.{pool_in, keys_in, IsSettled}
use Rattle.pc_pattern.specs.models.Seen.{AreSeen}
use Rattle.pc_pattern.specs.models.Leading.{rules_within}
use Rattle.pc_pattern.specs.Recording.{TakesEach}
use Rattle.pc_pattern.proofs.Progress.{Searching}
use Rattle.pc_pattern.proofs.searching.closed.Given as goal

-- the members that were taken have their states, the recorder has taken what each of these was filled to, and the others wait; and what
-- is kept of left windows is so
abbrev pub invariant-loop-window : goal.invariant-loop-window
invariant-loop-window g l =
    ((filled : List Window) × Searching (rules_within (table_of l.table) l.bounds) l.region l.bounds.extent.rows (states_in l.states) filled (pool_in l.pool)
    × TakesEach g.R.Recorder.takes l.initial.recorder filled l.recorder)
    × AllByRecursion IsSettled l.pool.waiting.items
    × AreSeen (rules_within (table_of l.table) l.bounds) (keys_in l.pool.keys.keys) l.pool.seen

-- there may be so many more
abbrev pub decreases-loop-window : goal.decreases-loop-window
decreases-loop-window g l = l.bounds.extent.rows - length l.states
