use Rattle.pc_table.specs.Table.{table_tree}
use Rattle.pc_regions.proofs.RegionsCut.{region_found}
use Rattle.pc_regions.proofs.cutting.region_of.Goals as goal

pub returns-clause-region : goal.returns-clause-region
returns-clause-region c =
    region_found c.args.flow.now c.args.heads.now.marks.items c.args.heads.now.headers.items c.args.live.now c.tree_at.new.found.order c.args.head c.tree_at.new.room
    (table_tree c.in_ok-tree.tree) c.in_ok-live.live c.inside.result c.headed_loop.result c.requires.kept c.requires.live c.requires.heads c.requires.there
    (rw c.deref.ensures.value at c.in_ok-tree.ensures.tree) c.in_ok-live.ensures c.inside.ensures (rw c.deref-2.ensures.value at c.headed_loop.ensures)
