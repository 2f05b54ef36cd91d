use Rattle.std.proofs.Common.{◌+◌, ◌*◌, not}
use Rattle.std.specs.List.{count_by}
use Rattle.pc_automaton.specs.Automaton.{states_in}
use Rattle.pc_told.specs.Tellings.{tellings_in}
use Rattle.pc_cycles.proofs.Visits.{HasFollowed}
use Rattle.pc_cycles.proofs.walk.+visit.Given as goal

-- the leaves before this one were followed
abbrev pub invariant-visit-loop-leaf : goal.invariant-visit-loop-leaf
invariant-visit-loop-leaf l =
    HasFollowed l.limits (states_in l.told.automaton) (tellings_in l.told.rows) l.told.waiting l.path l.state l.leaf l.initial.met l.met l.initial.cycles l.cycles

-- with each state that is met there are fewer that were not
abbrev pub decreases-visit : goal.decreases-visit
decreases-visit l = 2 * count_by not l.met.now

abbrev pub decreases-follow : goal.decreases-follow
decreases-follow l = 2 * count_by not l.met.now + 1
