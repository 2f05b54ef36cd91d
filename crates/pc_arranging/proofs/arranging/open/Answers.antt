use Rattle.std.proofs.Common.{arith}
use Rattle.pc_table.specs.StoredTable.{table_of}
use Rattle.pc_arranging.proofs.Doing.{parts_in, counts_in, open_some}
use Rattle.pc_arranging.proofs.arranging.open.Goals as goal

pub open_at-requires : goal.open_at-requires
open_at-requires c = record {
  nodes = c.in_ok-tree.ensures.nodes;
  parts = parts_in (table_of c.args.table.now) c.args.window c.requires c.in_ok-tree.tree c.in_ok-tree.ensures.tree;
  small = counts_in (table_of c.args.table.now) c.args.window c.requires c.in_ok-tree.tree c.in_ok-tree.ensures.tree;
  names = (let n = c.requires.can.small.names in omega arith);
  variables = (let n = c.requires.can.small.variables in omega arith);
}

pub returns : goal.returns
returns c =
    open_some (table_of c.args.table.now) c.args.window c.args.leaf c.in_ok-tree.tree c.in_ok-tree.ensures.tree c.open_at.new.tree c.open_at.new.names c.in_ok-done.done
    c.in_ok-done.ensures.opened c.if-not-done.false c.in_ok-done.ensures.nodes
