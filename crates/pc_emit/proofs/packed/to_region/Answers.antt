use Rattle.pc_emit.proofs.Entries.{region_target}
use Rattle.pc_emit.proofs.packed.to_region.Goals as goal

pub move_along-requires-clause-to : goal.move_along-requires-clause-to
move_along-requires-clause-to c = region_target c.args.plan.now c.requires.plan c.args.region _ c.leaf_to-leaf.ensures
