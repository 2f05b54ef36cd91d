use Rattle.pc_assign.proofs.Variables.{begins}
use Rattle.pc_assign.proofs.assigning.begins_with_variables.Goals as goal

pub returns : goal.returns
returns c =
    begins c.args.automaton.now c.first.result.now c.as_slice.result.now c.are_variables.result
    c.first.ensures c.as_slice.ensures c.are_variables.ensures
