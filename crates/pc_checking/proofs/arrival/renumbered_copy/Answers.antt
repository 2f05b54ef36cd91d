use Rattle.pc_checking.proofs.Arrived.{renumbered_begun}
use Rattle.pc_checking.proofs.arrival.renumbered_copy.Goals as goal

pub returns-clause-begun : goal.returns-clause-begun
returns-clause-begun c = λ table begun.
    let copy = c.in_ok-copy.ensures in
    let later = c.in_ok-copy-2.ensures in
    renumbered_begun table c.args.window.now c.in_ok-copy.copy c.in_ok-copy-2.copy begun copy.same copy.tree later.renumbers later.nodes later.proper later.names later.variables
    later.size
