use Rattle.std.proofs.Common.{◌≡◌}
use Rattle.pc_machine.specs.MachineCode.{rows_of}
use Rattle.pc_tighten.specs.models.Drafts.{draft_rows}
use Rattle.pc_tighten.proofs.tightening.trees.Given as goal

abbrev pub invariant-loop-draft : goal.invariant-loop-draft
invariant-loop-draft l = rows_of l.rows.items ≡ draft_rows l.yielded
