use Rattle.std.specs.Prelude.{take}
use Rattle.pc_window.specs.Names.{homes_use}
use Rattle.pc_unify.specs.models.Marks.{Marks}
use Rattle.pc_unify.proofs.marks.mark_homes.Given as goal

abbrev pub invariant-loop-at : goal.invariant-loop-at
invariant-loop-at l = Marks l.fn.marks l.marks (homes_use (take l.at l.fn.homes))
