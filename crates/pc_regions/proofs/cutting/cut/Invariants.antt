use Rattle.std.proofs.Common.{◌-◌, length}
use Rattle.pc_table.specs.Table.{table_regions}
use Rattle.pc_regions.specs.models.Cutting.{AreRegionsSoFar}
use Rattle.pc_regions.proofs.cutting.cut.Given as goal

abbrev pub invariant-loop-head : goal.invariant-loop-head
invariant-loop-head l = AreRegionsSoFar l.flow l.heads.marks.items l.found (table_regions l.regions)

abbrev pub decreases-loop-head : goal.decreases-loop-head
decreases-loop-head l = length l.flow.nodes - length l.regions
