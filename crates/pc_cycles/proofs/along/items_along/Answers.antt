use Rattle.pc_cycles.proofs.OnWays.{few_of_state, next_items}
use Rattle.pc_cycles.proofs.along.items_along.Goals as goal

pub push_items-requires : goal.push_items-requires
push_items-requires c = few_of_state c.args.told.now.automaton _ c.state-state.result.now c.requires.few c.state-state.ensures

pub loop-transition-preserved : goal.loop-transition-preserved
loop-transition-preserved c =
    next_items c.args.told.now.automaton c.args.way.now c.loop-transition.transition-index _ c.loop-transition-test.true c.state-state.result.now
    c.state-state.ensures c.loop-transition.items c.push_items.new.items c.in_ok-push_items.ensures c.loop-transition.invariant
