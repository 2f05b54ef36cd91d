use Rattle.std.proofs.Common.{◌≡◌, ◌++◌}
use Rattle.std.specs.Prelude.{reverse}
use Rattle.pc_machine.specs.MachineCode.{rows_of}
use Rattle.pc_tighten.specs.models.Gotos.{rows_left}
use Rattle.pc_tighten.proofs.removing.rows_left.Given as goal

abbrev pub invariant-loop-tree : goal.invariant-loop-tree
invariant-loop-tree l = rows_left l.gotos l.it (rows_of l.rows.items) ++ rows_of (reverse l.left.items) ≡ rows_left l.gotos l.it (rows_of l.initial.rows.items)

abbrev pub decreases-loop-tree : goal.decreases-loop-tree
decreases-loop-tree l = goal.left-loop-tree l
