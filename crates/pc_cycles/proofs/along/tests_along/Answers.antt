use Rattle.pc_cycles.proofs.OnWays.{few_of_state, next_tests}
use Rattle.pc_cycles.proofs.along.tests_along.Goals as goal

pub push_tests-requires : goal.push_tests-requires
push_tests-requires c = few_of_state c.args.told.now.automaton _ c.state-state.result.now c.requires.few c.state-state.ensures

pub loop-transition-preserved : goal.loop-transition-preserved
loop-transition-preserved c =
    next_tests c.args.told.now.automaton c.args.way.now c.loop-transition.transition-index _ c.loop-transition-test.true c.state-state.result.now
    c.state-state.ensures c.loop-transition.tests c.push_tests.new.tests c.in_ok-push_tests.ensures c.loop-transition.invariant
