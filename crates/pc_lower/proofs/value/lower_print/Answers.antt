use Rattle.pc_lower.proofs.Assigned.{held_value}
use Rattle.pc_lower.proofs.Spots.{print_fits}
use Rattle.pc_lower.proofs.value.lower_print.Goals as goal

pub lay_item-last-requires-clause-fits : goal.lay_item-last-requires-clause-fits
lay_item-last-requires-clause-fits c = rw c.held.ensures (print_fits _ _ (held_value c.requires.value))
