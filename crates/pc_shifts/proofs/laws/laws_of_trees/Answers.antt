use Rattle.pc_shifts.proofs.UsedNames.{used_right, tree_kept}
use Rattle.pc_shifts.proofs.TidiedTrees.{tidied_alike}
use Rattle.pc_shifts.proofs.GraftedTrees.{grafted_alike}
use Rattle.pc_shifts.proofs.laws.laws_of_trees.Goals as goal

pub returns-clause-used : goal.returns-clause-used
returns-clause-used c = λ maps forms forms' names one other h x is. used_right x h is

pub returns-clause-only : goal.returns-clause-only
returns-clause-only c = λ maps forms forms' names names' one other k h. tree_kept names' k h

pub returns-clause-tidied : goal.returns-clause-tidied
returns-clause-tidied c = tidied_alike

pub returns-clause-grafted : goal.returns-clause-grafted
returns-clause-grafted c = grafted_alike
