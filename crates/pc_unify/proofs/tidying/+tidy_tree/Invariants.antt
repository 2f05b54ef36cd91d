use Rattle.pc_unify.specs.models.Marks.{stored_size}
use Rattle.pc_unify.proofs.tidying.+tidy_tree.Given as goal

abbrev pub decreases-tidy_tree : goal.decreases-tidy_tree
decreases-tidy_tree l = stored_size l.tree.now
