use Rattle.std.proofs.Common.{◌≡◌, ◌∙◌, ◌+◌, ◌<◌, List, ℕ, length, ap, sym, subst, arith}
use Rattle.pc_machine.specs.MachineCode.{row_of}
use Rattle.pc_count.specs.Work.{both, row_work}
use Rattle.pc_count.specs.declared.work.Work.{Work}
use Rattle.pc_count.specs.models.Bounds.{IsFew}
use Rattle.pc_count.proofs.Works.{SoFar, next-of, row-few, so_far-more}
use Rattle.pc_count.proofs.work.rows_work.Goals as goal

pub and-work-requires-clause-other : goal.and-work-requires-clause-other
and-work-requires-clause-other c =
    let i = c.loop-number.number in
    let tree = c.index-rows-number.result in
    let h : i < length c.args.rows.now = omega arith in
    let next = next-of c.args.rows.now c.args.leaves.now i tree h c.index-rows-number.is c.loop-number.invariant.counted in
    let counts : c.as_slice.result.now ≡ next.counts = c.as_slice.ensures ∙ c.index-leaves-number.is ∙ next.read c.index-leaves-number.result in
    subst IsFew (sym (c.row_work.ensures ∙ ap (λ (xs : List ℕ). row_work (row_of tree) xs) counts)) (row-few (row_of tree) next.counts next.is)

pub loop-number-preserved : goal.loop-number-preserved
loop-number-preserved c =
    let i = c.loop-number.number in
    let tree = c.index-rows-number.result in
    let h : i < length c.args.rows.now = omega arith in
    let next = next-of c.args.rows.now c.args.leaves.now i tree h c.index-rows-number.is c.loop-number.invariant.counted in
    let counts : c.as_slice.result.now ≡ next.counts = c.as_slice.ensures ∙ c.index-leaves-number.is ∙ next.read c.index-leaves-number.result in
    let same : c.and-work.result ≡ both c.loop-number.work (row_work (row_of tree) next.counts) =
    c.and-work.ensures ∙ ap (λ (w : Work). both c.loop-number.work w) (c.row_work.ensures ∙ ap (λ (xs : List ℕ). row_work (row_of tree) xs) counts) in
    subst (λ (w : Work). SoFar c.args.rows.now c.args.leaves.now (i + 1) w) (sym same)
    (so_far-more c.args.rows.now c.args.leaves.now i tree c.loop-number.work c.loop-number.invariant next)
