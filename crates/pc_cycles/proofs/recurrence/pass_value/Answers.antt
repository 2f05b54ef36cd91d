use Rattle.pc_cycles.proofs.OnWays.{few_of_state}
use Rattle.pc_cycles.proofs.recurrence.pass_value.Goals as goal

pub leaf_at-requires : goal.leaf_at-requires
leaf_at-requires c = few_of_state c.args.told.now.automaton c.args.transition.state c.state-state.result.now c.requires.few c.state-state.ensures
