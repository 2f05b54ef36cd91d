use Rattle.std.proofs.Common.{◌≡◌, vec_len}
use Rattle.pc_machine.specs.MachineCode.{row_of}
use Rattle.pc_tighten.specs.Moves.{below}
use Rattle.pc_tighten.proofs.draft.rebuilt.Given as goal

abbrev pub invariant-loop-item : goal.invariant-loop-item
invariant-loop-item l = below l.items.items (row_of l.tree) ≡ below l.initial.items.items (row_of l.initial.tree)

abbrev pub decreases-loop-item : goal.decreases-loop-item
decreases-loop-item l = vec_len l.items
