use Rattle.std.proofs.Common.{sym, ◌∙◌, ap}
use Rattle.pc_assign.specs.Uses.{row_uses}
use Rattle.pc_assign.specs.models.Choosing.{member}
use Rattle.pc_assign.proofs.Held.{used_then, used_else}
use Rattle.pc_assign.proofs.UsedSets.{used_there}
use Rattle.pc_assign.proofs.definitions.used_below.Goals.{then-contains, else-contains}
use Rattle.pc_assign.proofs.definitions.used_below.Goals as goal
use Rattle.pc_word.specs.StoredRow.{row_in}

pub loop-at-preserved : goal.loop-at-preserved
loop-at-preserved c = elim c.if-contains.branch [
  | then-contains w ↦ λ other.
      ap (λ set. member set other) w.set-is ∙ w.with-set.ensures other
      ∙ used_then
      (row_uses (row_in
      (λ leaf. leaf) c.args.rest.now)) c.args.parameters.now c.args.held.now c.loop-at.at other _ c.loop-at-test.true c.requires.as_many
      (sym (used_there (row_uses (row_in
      (λ leaf. leaf) c.args.rest.now)) c.args.parameters.now c.used_in-used.result c.loop-at.at c.used_in-used.ensures c.loop-at-test.true)
      ∙ sym c.contains.ensures ∙ w.if-contains.true) (c.loop-at.invariant other)
  | else-contains w ↦ λ other.
      ap (λ set. member set other) w.set-is
      ∙ used_else
      (row_uses (row_in
      (λ leaf. leaf) c.args.rest.now)) c.args.parameters.now c.args.held.now c.loop-at.at other _ c.loop-at-test.true c.requires.as_many
      (sym (used_there (row_uses (row_in
      (λ leaf. leaf) c.args.rest.now)) c.args.parameters.now c.used_in-used.result c.loop-at.at c.used_in-used.ensures c.loop-at-test.true)
      ∙ sym c.contains.ensures ∙ w.if-contains.false) (c.loop-at.invariant other)
]
