use Rattle.std.proofs.Common.{arith}
use Rattle.pc_lower.proofs.Lowered.{copy_fits}
use Rattle.pc_lower.proofs.Assigned.{held_value}
use Rattle.pc_lower.proofs.assignment.lower_put.Goals as goal

pub lay_item-last-requires-clause-fits : goal.lay_item-last-requires-clause-fits
lay_item-last-requires-clause-fits c =
    let small = c.requires.scalar in
    rw c.held-from.ensures (copy_fits c.args.scalar _ _ (omega (arith, small)) (held_value c.requires.value))
