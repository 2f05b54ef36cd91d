use Rattle.std.proofs.Common.{◌≡◌, take}
use Rattle.pc_copies.specs.Moves.{nontrivial_moves}
use Rattle.pc_copies.proofs.arranging.kept.Given as goal

abbrev pub invariant-loop-at : goal.invariant-loop-at
invariant-loop-at l = l.row ≡ nontrivial_moves (take l.at l.moves)
