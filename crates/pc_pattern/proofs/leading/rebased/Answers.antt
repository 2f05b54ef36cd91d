use Rattle.pc_table.specs.StoredTable.{table_of}
use Rattle.pc_pattern.proofs.Steps.{is_rebased}
use Rattle.pc_pattern.proofs.leading.rebased.Goals as goal

pub returns-clause-able : goal.returns-clause-able
returns-clause-able c =
    let later = c.in_ok-window.ensures in
    is_rebased (table_of c.args.table.now) c.args.window c.in_ok-window.window c.requires.able later.rebases later.nodes later.names later.variables later.proper
