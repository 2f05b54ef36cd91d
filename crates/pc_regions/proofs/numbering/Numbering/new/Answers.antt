use Rattle.pc_regions.proofs.Numberings.{nothing_met_is_numbered}
use Rattle.pc_regions.proofs.numbering.Numbering.new.Goals as goal

pub invariant_of-result : goal.invariant_of-result
invariant_of-result c = rw (c.new.ensures, c.in_ok-numbers.ensures) (nothing_met_is_numbered c.args.count c.requires)
