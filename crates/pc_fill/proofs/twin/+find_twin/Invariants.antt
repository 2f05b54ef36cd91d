use Rattle.pc_fill.specs.models.Extent.{extent}
use Rattle.pc_fill.proofs.twin.+find_twin.Given as goal

abbrev pub decreases-find_twin : goal.decreases-find_twin
decreases-find_twin l = extent l.tree.now
