use Rattle.pc_settling.specs.Stored.{remaining_in}
use Rattle.pc_checking.proofs.LeftAtLeaves.{settled_rest}
use Rattle.pc_checking.proofs.leaves.left_at_leaf.Goals as goal

pub returns-clause-settled : goal.returns-clause-settled
returns-clause-settled c =
    settled_rest remaining_in c.args.arranged.now c.in_ok-names.names c.args.limits c.args.rest c.in_ok-facts.facts c.args.held.now c.settle.result c.in_ok-names.ensures
    c.in_ok-facts.ensures c.requires c.settle.ensures.settled
