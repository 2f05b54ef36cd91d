use Rattle.pc_table.specs.StoredTable.{table_of}
use Rattle.pc_proposing.proofs.Leaving.{arranged_left}
use Rattle.pc_proposing.proofs.going.leaves_lead_on.Goals as goal

-- what is left of the window that was arranged
pub front_leads_on-requires-clause-left : goal.front_leads_on-requires-clause-left
front_leads_on-requires-clause-left c =
    arranged_left (table_of c.args.setting.now.table.now) c.args.prepared.now.window c.args.setting.now.code.now.limits c.requires.arranged c.args.setting.now.limits
