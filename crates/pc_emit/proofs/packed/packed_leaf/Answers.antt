use Rattle.std.proofs.Common.{refl}
use Rattle.pc_emit.proofs.Packs.{leaf_traps}
use Rattle.pc_emit.proofs.packed.packed_leaf.Goals as goal

pub returns-in-Trap-clause-made : goal.returns-in-Trap-clause-made
returns-in-Trap-clause-made c = leaf_traps _ _ _ _ _ _ c.in-Trap.kind c.in-Trap.line c.in-Trap.is refl
