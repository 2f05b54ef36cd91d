use Rattle.std.proofs.Common.{ℕ, ap, ◌∙◌, sym, rules, arith, take, get_or, pos}
use mir.Val.{SFits}
use mir.Syntax.{w32}
use Rattle.pc_syntax.specs.declared.constant.Const.{Const}
use Rattle.pc_check.specs.InitialData.{values_of}
use Rattle.pc_check.proofs.DataLaws.{kept_before_zero, kept_to_value}
use Rattle.pc_check.proofs.initial.significant.Goals as goal
use Rattle.pc_check.proofs.initial.significant.Goals.{then-constant-ne0, else-constant-ne0}

-- one value more: another than 0 is the last so far, and a 0 leaves all as it is
pub loop-place-preserved : goal.loop-place-preserved
loop-place-preserved c =
    let values = c.args.values.now in
    let place = c.loop-place.place in
    let none : Const = record { line = 0; value = pos 0 } in
    elim c.if-constant-ne0.branch [
      | then-constant-ne0 w ↦
          record {
            within = omega (arith, w.kept-is);
            so_far = kept_to_value values place none c.loop-place-test.true w.if-constant-ne0.true ∙ ap (λ (n : ℕ). take n (values_of values)) (sym w.kept-is);
          }
      | else-constant-ne0 w ↦
          (let fits : SFits w32 (get_or values place none).value = search rules in
          record {
            within = omega (arith, w.kept-is);
            so_far = kept_before_zero values place none c.loop-place.kept c.loop-place-test.true fits w.if-constant-ne0.false c.loop-place.invariant.so_far
                ∙ ap (λ (n : ℕ). take n (values_of values)) (sym w.kept-is);
          })
    ]
