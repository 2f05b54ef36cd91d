use Rattle.pc_settling.specs.Stored.{remaining_in}
use Rattle.pc_checking.specs.models.Stored.{arrivals_in, setting_in, departure_in}
use Rattle.pc_checking.proofs.LeftAtLeaves.{gone_to, end_is, ended}
use Rattle.pc_checking.proofs.leaves.lead_on.Goals as goal

pub returns-in-Goto-clause-leads : goal.returns-in-Goto-clause-leads
returns-in-Goto-clause-leads c =
    gone_to (setting_in c.args.setting.now) (departure_in c.args.departure) (remaining_in c.args.left) (arrivals_in c.args.arrivals.now) (arrivals_in c.lead.new.arrivals) c.args.leaf
    c.in-Goto.row c.lead.result c.in-Goto.is c.lead.ensures.leads

pub returns-in-Stop : goal.returns-in-Stop
returns-in-Stop c = record {
  leads = ended (setting_in c.args.setting.now) (departure_in c.args.departure) (remaining_in c.args.left) (arrivals_in c.args.arrivals.now) c.args.leaf c.end_alike.result
      (end_is c.args.leaf c.in-Stop.is) c.end_alike.ensures;
  kept = c.requires.kept;
}
