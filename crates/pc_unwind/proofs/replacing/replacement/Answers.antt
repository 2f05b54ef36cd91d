use Rattle.std.proofs.Common.{refl}
use Rattle.pc_window.specs.StoredWindow.{supply_in}
use Rattle.pc_unwind.proofs.StubReplacements.{refused, replaced}
use Rattle.pc_table.specs.StoredTable.{table_of}
use Rattle.pc_unwind.proofs.TableRegions.{homes_small}
use Rattle.pc_unwind.proofs.replacing.replacement.Goals as goal

pub returns-then-growth-more-gt-MOST_UNWOUND : goal.returns-then-growth-more-gt-MOST_UNWOUND
returns-then-growth-more-gt-MOST_UNWOUND c = (
  refl,
  refused (table_of c.args.table.now) c.args.region _ c.tree-from.ensures.tree c.args.inside c.args.tag c.args.homes.now (supply_in c.args.growth.now.names)
      c.args.growth.now.size c.brought_size-more.result c.brought_size-more.ensures.brought c.if-growth-more-gt-MOST_UNWOUND.true,
)

pub returns : goal.returns
returns c =
    replaced (table_of c.args.table.now) c.args.region _ c.tree-from.ensures.tree c.args.inside c.args.tag c.args.homes.now c.args.growth.now c.graft.new.names
    c.in_ok-tree.tree c.brought_size-more.result c.brought_size-more.ensures.brought c.if-growth-more-gt-MOST_UNWOUND.false
    c.in_ok-tree.ensures.nodes c.in_ok-tree.ensures.tree

pub graft-requires-clause-small : goal.graft-requires-clause-small
graft-requires-clause-small c = homes_small (table_of c.args.table.now) c.args.table.now.kept c.args.region c.args.homes.now c.requires.stub
