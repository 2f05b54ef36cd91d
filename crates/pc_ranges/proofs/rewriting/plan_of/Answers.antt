use Rattle.pc_ranges.proofs.Ranged.{taken_falls}
use Rattle.pc_ranges.proofs.rewriting.plan_of.Goals as goal

pub chain_ends-requires : goal.chain_ends-requires
chain_ends-requires c = rw c.as_mut_slice.ensures.value (taken_falls c.args.flow.now c.args.map.now c.in_ok-table.table.items c.in_ok-table.ensures)
