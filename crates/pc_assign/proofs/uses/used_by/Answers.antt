use Rattle.std.proofs.Common.{sym, ◌∙◌, ap}
use Rattle.pc_assign.specs.Uses.{leaf_uses}
use Rattle.pc_assign.specs.models.Choosing.{member}
use Rattle.pc_assign.proofs.UsedSets.{place_then, place_else}
use Rattle.pc_assign.proofs.uses.used_by.Goals.{then-leaf_uses, else-leaf_uses}
use Rattle.pc_assign.proofs.uses.used_by.Goals as goal

pub loop-at-preserved : goal.loop-at-preserved
loop-at-preserved c = elim c.if-leaf_uses.branch [
  | then-leaf_uses w ↦ λ place.
      ap (λ set. member set place) w.set-is ∙ w.with-set.ensures place
      ∙ place_then (leaf_uses c.args.leaf.now) c.args.parameters.now c.loop-at.at place _ c.loop-at-test.true
      (sym c.leaf_uses.ensures ∙ w.if-leaf_uses.true) (c.loop-at.invariant place)
  | else-leaf_uses w ↦ λ place.
      ap (λ set. member set place) w.set-is
      ∙ place_else (leaf_uses c.args.leaf.now) c.args.parameters.now c.loop-at.at place _ c.loop-at-test.true
      (sym c.leaf_uses.ensures ∙ w.if-leaf_uses.false) (c.loop-at.invariant place)
]
