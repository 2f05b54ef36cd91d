use Rattle.std.proofs.Common.{◌≡◌, take, None}
use Rattle.pc_copies.specs.models.Sources.{source_in}
use Rattle.pc_copies.proofs.place.position.Given as goal

abbrev pub invariant-loop-at : goal.invariant-loop-at
invariant-loop-at l = source_in (take l.at l.path) l.register ≡ None
