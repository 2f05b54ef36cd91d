use Rattle.pc_settling.proofs.FactLists.{listed_after_copy_hold, all_after_copy_are_listed, listed_in_region_hold, all_in_region_are_listed}
use Rattle.pc_settling.proofs.StartFacts.{listed_at_start_hold, all_at_start_are_listed}
use Rattle.pc_settling.proofs.laws.laws_of_facts.Goals as goal

pub returns-clause-after_copy : goal.returns-clause-after_copy
returns-clause-after_copy c = listed_after_copy_hold

pub returns-clause-all_after_copy : goal.returns-clause-all_after_copy
returns-clause-all_after_copy c = all_after_copy_are_listed

pub returns-clause-in_region : goal.returns-clause-in_region
returns-clause-in_region c = listed_in_region_hold

pub returns-clause-all_in_region : goal.returns-clause-all_in_region
returns-clause-all_in_region c = all_in_region_are_listed

pub returns-clause-at_start : goal.returns-clause-at_start
returns-clause-at_start c = listed_at_start_hold

pub returns-clause-all_at_start : goal.returns-clause-all_at_start
returns-clause-all_at_start c = all_at_start_are_listed
