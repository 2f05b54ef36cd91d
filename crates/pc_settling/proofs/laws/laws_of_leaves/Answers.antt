use Rattle.pc_settling.proofs.LeadingOn.{leaves_lead_on, regions_lead_on}
use Rattle.pc_settling.proofs.laws.laws_of_leaves.Goals as goal

pub returns-clause-leaves : goal.returns-clause-leaves
returns-clause-leaves c = leaves_lead_on

pub returns-clause-regions : goal.returns-clause-regions
returns-clause-regions c = regions_lead_on
