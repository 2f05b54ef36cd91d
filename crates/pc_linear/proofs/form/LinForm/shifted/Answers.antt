use Rattle.std.proofs.Common.{rules, ◌≡◌, ◌∙◌, ap, ℤ, pos, w32, to_z, of_z}
use Rattle.std.specs.Prelude.{FitsSigned}
use Rattle.std.proofs.lemmas.Int.{to_z-of_z}
use Rattle.pc_word.specs.Word.{word_shl}
use Rattle.pc_linear.specs.Form.{Form}
use Rattle.pc_linear.specs.Combine.{constant_form, fitting, times_form, shift_factor}
use Rattle.pc_linear.proofs.Words.{word_shl-one}
use Rattle.pc_linear.proofs.Normal.{plus-same}
use Rattle.pc_linear.proofs.form.LinForm.shifted.Goals as goal

pub returns : goal.returns
returns c =
    let f = c.args.self.now in
    let fits : FitsSigned w32 c.shl.result = search rules in
    let number : to_z w32 (of_z w32 c.shl.result) ≡ word_shl (pos 1) c.args.count =
    to_z-of_z w32 c.shl.result fits ∙ c.shl.ensures ∙ ap (λ (z : ℤ). word_shl (pos 1) z) (to_z-of_z w32 c.args.count c.ranges.count) in
    c.times.ensures ∙ ap (λ (z : ℤ). fitting (times_form f z)) number
    ∙ ap (λ (g : Form). fitting g) (plus-same (constant_form (pos 0)) (word_shl (pos 1) c.args.count) (shift_factor c.args.count) f (word_shl-one c.args.count))
