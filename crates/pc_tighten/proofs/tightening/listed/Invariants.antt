use Rattle.std.proofs.Common.{◌≡◌, ◌++◌, length}
use Rattle.std.specs.Prelude.{reverse}
use Rattle.pc_machine.specs.MachineCode.{rows_of}
use Rattle.pc_tighten.proofs.tightening.listed.Given as goal

abbrev pub invariant-loop-tree : goal.invariant-loop-tree
invariant-loop-tree l = rows_of l.rows ++ rows_of (reverse l.listed.items) ≡ rows_of l.initial.rows

abbrev pub decreases-loop-tree : goal.decreases-loop-tree
decreases-loop-tree l = length l.rows
