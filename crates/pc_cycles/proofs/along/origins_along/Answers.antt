use Rattle.pc_automaton.specs.Automaton.{states_in}
use Rattle.pc_told.specs.Tellings.{tellings_in}
use Rattle.pc_cycles.proofs.OnWays.{next_origins}
use Rattle.pc_cycles.proofs.along.origins_along.Goals as goal

pub loop-transition-preserved : goal.loop-transition-preserved
loop-transition-preserved c =
    next_origins c.args.of_items (states_in c.args.told.now.automaton) (tellings_in c.args.told.now.rows) c.args.way.now c.loop-transition.transition-index _
    c.loop-transition-test.true c.loop-transition.origins c.push_told.new.origins c.in_ok-push_told.ensures c.loop-transition.invariant
