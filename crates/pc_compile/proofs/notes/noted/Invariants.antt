use Rattle.std.proofs.Common.{◌≡◌, ◌++◌, drop}
use Rattle.pc_compile.specs.models.Heading.{noted}
use Rattle.pc_compile.proofs.notes.noted.Given as goal

-- the notes so far, before those of the loops that are left, are those of all
abbrev pub invariant-loop-at : goal.invariant-loop-at
invariant-loop-at l = l.notes ++ noted l.choices (drop l.at l.loops) (drop l.at l.heading) ≡ noted l.choices l.loops l.heading
