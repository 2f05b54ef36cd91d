use Rattle.pc_tighten.proofs.Gotos.{AreRanked}
use Rattle.pc_tighten.proofs.removing.ranks.Given as goal

abbrev pub invariant-loop-row : goal.invariant-loop-row
invariant-loop-row l = AreRanked l.gotos l.places.items l.gone l.row
