use Rattle.std.proofs.Common.{◌≡◌, length, drop}
use Rattle.std.specs.Prelude.{replicate}
use Rattle.pc_tighten.specs.declared.parents.Naming.TheVariants.{Never}
use Rattle.pc_tighten.specs.models.Drafts.{draft_rows}
use Rattle.pc_tighten.specs.models.Parents.{with_all_names}
use Rattle.pc_tighten.proofs.parents.names.Given as goal

abbrev pub invariant-loop-from : goal.invariant-loop-from
invariant-loop-from l = with_all_names l.from (draft_rows (drop l.from l.rows)) l.names.items ≡ with_all_names 0 (draft_rows l.rows) (replicate (length l.rows) Never)
