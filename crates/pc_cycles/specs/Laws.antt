-- The law of the bounds of cycles. It is the contract of a function of laws.rt, which does nothing.
use Rattle.std.specs.Prelude.{◌≤◌, List, length}
use Rattle.pc_word.specs.declared.item.Limits.{Limits}
use Rattle.pc_automaton.specs.Automaton.{AutomatonState}
use Rattle.pc_waiting.specs.declared.obstacle.Waiting.{Waiting}
use Rattle.pc_told.specs.Tellings.{Telling}
use Rattle.pc_cycles.specs.declared.cycle.Cycle.{Cycle}
use Rattle.pc_cycles.specs.Bounds.{cycle_bound}
use Rattle.pc_cycles.specs.Cycles.{IsCycle}

-- once round a cycle takes no fewer rows than its bound
abbrev pub BoundsAreKept : Type 0
BoundsAreKept = (limits : Limits) (states : List AutomatonState) (tellings : List Telling) (waits : List (List Waiting)) (cycle : Cycle)
    → IsCycle limits states tellings waits cycle → cycle_bound cycle ≤ length cycle.transitions
