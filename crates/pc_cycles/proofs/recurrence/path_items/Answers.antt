use Rattle.pc_cycles.proofs.OnWays.{few_of_state}
use Rattle.pc_cycles.proofs.recurrence.path_items.Goals as goal

pub push_told_items-requires : goal.push_told_items-requires
push_told_items-requires c = few_of_state c.args.told.now.automaton c.args.transition.state c.state-state.result.now c.requires.few c.state-state.ensures
