use Rattle.pc_table.specs.StoredTable.{table_of}
use Rattle.pc_arranging.proofs.Doing.{parts_in, few_in, enter_some}
use Rattle.pc_arranging.proofs.arranging.enter.Goals as goal

pub enter_at-requires : goal.enter_at-requires
enter_at-requires c = record {
  nodes = c.in_ok-tree.ensures.nodes;
  parts = parts_in (table_of c.args.table.now) c.args.window c.requires c.in_ok-tree.tree c.in_ok-tree.ensures.tree;
  small = few_in (table_of c.args.table.now) c.args.window c.requires c.in_ok-tree.tree c.in_ok-tree.ensures.tree;
  names = c.requires.can.small.names;
  variables = c.requires.can.small.variables;
}

pub returns : goal.returns
returns c =
    enter_some (table_of c.args.table.now) c.args.window c.args.leaf c.in_ok-tree.tree c.in_ok-tree.ensures.tree c.enter_at.new.tree c.enter_at.new.names c.in_ok-enter_at.field-0
    c.in_ok-enter_at.ensures.entered c.if-not-branch.false (c.in_ok-enter_at.ensures.nodes c.if-not-branch.false)
