use Rattle.std.proofs.Common.{ap}
use Rattle.pc_table.specs.Table.{table_tree}
use Rattle.pc_emit.proofs.Leads.{behind_region}
use Rattle.pc_emit.proofs.plan.Plan.leaf_behind.Goals as goal

pub returns-in-Next : goal.returns-in-Next
returns-in-Next c =
    behind_region c.args.self.now c.args.row (table_tree c.args.tree.now) c.leaf_to.result c.in-Next.region (ap table_tree c.in-Next.is) c.leaf_to.ensures
