use Rattle.std.proofs.Common.{◌≤◌, ◌+◌, subst, sym, map, take, arith}
use Rattle.pc_syntax.specs.Erasure.{expression_of}
use Rattle.pc_calls.specs.Measures.{Size, no_size, around, extent}
use Rattle.pc_calls.specs.Counted.{arguments_size}
use Rattle.pc_inline.specs.declared.size.Size as told
use Rattle.pc_inline.specs.models.Sized.{IsSize}
use Rattle.pc_inline.proofs.Sizing.{sized_together, sized_alone, argument_in, argument_out}
use Rattle.pc_inline.proofs.counting.arguments_size.Goals.{then-at-count, else-at-count}
use Rattle.pc_inline.proofs.counting.arguments_size.Goals as goal

-- one more argument, which has a parameter or none
pub loop-at-preserved : goal.loop-at-preserved
loop-at-preserved c =
    let whole = arguments_size c.args.count (map expression_of (take (c.loop-at.at + 1) c.args.arguments.now)) in
    elim c.if-at-count.branch [
      | then-at-count w ↦
          let e = expression_of c.index-arguments-at.result in
          let more = argument_in c.args.count c.args.arguments.now c.loop-at.at c.index-arguments-at.result c.loop-at-test.true c.index-arguments-at.is w.if-at-count.true in
          let one : IsSize w.around.result (around (extent e) no_size) = sized_alone w.extent.result w.around.result (extent e) w.extent.ensures.nodes w.extent.ensures.high
          w.around.ensures.count w.around.ensures.nodes w.around.ensures.height in
          subst (λ (z : told.Size). IsSize z whole) (sym w.total-is)
          (sized_together c.loop-at.total w.around.result w.together-total.result _ _ _ c.loop-at.invariant one
          w.together-total.ensures.count w.together-total.ensures.nodes w.together-total.ensures.height more)
      | else-at-count w ↦
          let past : c.args.count ≤ c.loop-at.at = omega (arith, w.if-at-count.false) in
          let same = argument_out c.args.count c.args.arguments.now c.loop-at.at c.index-arguments-at.result c.loop-at-test.true c.index-arguments-at.is past in
          subst (λ (z : told.Size). IsSize z whole) (sym w.total-is) (subst (λ (s : Size). IsSize c.loop-at.total s) (sym same) c.loop-at.invariant)
    ]
