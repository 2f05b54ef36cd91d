use Rattle.std.specs.Prelude.{false}
use Rattle.pc_table.specs.StoredTable.{table_of}
use Rattle.pc_arranging.proofs.Doing.{counts_in, use_some}
use Rattle.pc_arranging.proofs.arranging.use_copy.Goals as goal

pub use_at-requires : goal.use_at-requires
use_at-requires c = counts_in (table_of c.args.table.now) c.args.window c.requires c.in_ok-tree.tree c.in_ok-tree.ensures.tree

pub returns : goal.returns
returns c =
    use_some (table_of c.args.table.now) c.args.window c.args.copy c.args.part c.in_ok-tree.tree c.in_ok-tree.ensures.tree c.use_at.new.tree c.use_at.result c.use_at.ensures.tree
    c.if-not-use_at.false (c.use_at.ensures.nodes false c.in_ok-tree.ensures.nodes)
