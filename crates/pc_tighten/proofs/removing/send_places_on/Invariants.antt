use Rattle.pc_tighten.specs.models.Gotos.{ArePlacesFrom}
use Rattle.pc_tighten.proofs.removing.send_places_on.Given as goal

abbrev pub invariant-loop-row : goal.invariant-loop-row
invariant-loop-row l = ArePlacesFrom l.gotos l.it l.row

abbrev pub decreases-loop-row : goal.decreases-loop-row
decreases-loop-row l = l.row
