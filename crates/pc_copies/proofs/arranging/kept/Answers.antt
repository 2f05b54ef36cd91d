use Rattle.std.proofs.Common.{sym, ◌∙◌}
use Rattle.pc_copies.proofs.Kept.{kept_skipped, kept_pushed}
use Rattle.pc_copies.proofs.arranging.kept.Goals.{then-not-is_name+in_ok-push, else-not-is_name}
use Rattle.pc_copies.proofs.arranging.kept.Goals as goal

pub loop-at-preserved : goal.loop-at-preserved
loop-at-preserved c = elim c.if-not-is_name.branch [
  | then-not-is_name+in_ok-push w ↦
      kept_pushed c.args.moves.now c.loop-at.at _ c.loop-at.row c.if-not-is_name.row c.loop-at-test.true c.loop-at.invariant (sym c.is_name.ensures ∙ w.if-not-is_name.true)
      (w.row-is ∙ w.in_ok-push.ensures.ok)
  | else-not-is_name w ↦
      w.row-is ∙ kept_skipped c.args.moves.now c.loop-at.at _ c.loop-at.row c.loop-at-test.true c.loop-at.invariant (sym c.is_name.ensures ∙ w.if-not-is_name.false)
]
