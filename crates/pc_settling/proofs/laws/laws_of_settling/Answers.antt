use Rattle.pc_settling.proofs.SettledLaws.{settled_is_done, settled_agrees_law, settled_agrees_in_region_law, ends_agree_law}
use Rattle.pc_settling.proofs.laws.laws_of_settling.Goals as goal

pub returns-clause-done : goal.returns-clause-done
returns-clause-done c = settled_is_done

pub returns-clause-agrees : goal.returns-clause-agrees
returns-clause-agrees c = settled_agrees_law

pub returns-clause-in_region : goal.returns-clause-in_region
returns-clause-in_region c = settled_agrees_in_region_law

pub returns-clause-ends : goal.returns-clause-ends
returns-clause-ends c = ends_agree_law
