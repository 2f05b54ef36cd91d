use Rattle.pc_cycles.proofs.OnWays.{few_of_state, next_taken}
use Rattle.pc_cycles.proofs.along.taken_along.Goals as goal

pub push_taken-requires : goal.push_taken-requires
push_taken-requires c = few_of_state c.args.told.now.automaton _ c.state-state.result.now c.requires.few c.state-state.ensures

pub loop-transition-preserved : goal.loop-transition-preserved
loop-transition-preserved c =
    next_taken c.args.told.now.automaton c.args.way.now c.loop-transition.transition-index _ c.loop-transition-test.true c.state-state.result.now
    c.state-state.ensures c.loop-transition.taken c.push_taken.new.taken c.in_ok-push_taken.ensures c.loop-transition.invariant
