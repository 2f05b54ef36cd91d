use Rattle.std.proofs.Common.{◌≡◌, ◌++◌, length}
use Rattle.std.specs.Prelude.{reverse}
use Rattle.std.specs.List.{AllByRecursion}
use Rattle.pc_machine.specs.MachineCode.{rows_of}
use Rattle.pc_tighten.specs.models.Drafts.{draft_rows, IsSplit}
use Rattle.pc_tighten.proofs.tightening.drafts.Given as goal

abbrev pub invariant-loop-tree : goal.invariant-loop-tree
invariant-loop-tree l = record {
  rows : rows_of l.rows.items ++ draft_rows (reverse l.drafts.items) ≡ rows_of l.initial.rows.items;
  split : AllByRecursion IsSplit l.drafts.items;
}

abbrev pub decreases-loop-tree : goal.decreases-loop-tree
decreases-loop-tree l = length l.rows.items
