use Rattle.std.proofs.Common.{rules, ◌≡◌, ◌+◌, ◌∙◌, Some, drop, w32, ap}
use Rattle.std.specs.Prelude.{ℤ, pos, slice_get}
use Rattle.std.proofs.lemmas.Int.{to_z-of_z}
use Rattle.pc_word.proofs.Lists.{all_at}
use Rattle.pc_linear.specs.Form.{HasFactor, IsForm}
use Rattle.pc_linear.specs.Combine.{plus, times_form}
use Rattle.pc_rebase.specs.models.Standing.{stands_in, and_terms}
use Rattle.pc_rebase.proofs.Stored.{sum_goes_on}
use Rattle.pc_rebase.proofs.standing.+and_terms.Goals as goal

pub returns-in-Some : goal.returns-in-Some
returns-in-Some t c =
    let form = c.args.form.now in
    let stands = stands_in c.args.stands.now in
    let place = c.args.place in
    let term = c.in-Some.term in
    let stood = c.standing_form-stands_for.result in
    let sum = c.args.sum.now in
    let mid = c.and_times-sum.result in
    let kept : IsForm form = c.term.ensures.kept in
    let there : slice_get form.terms place ≡ Some term = search rules in
    let fits = all_at HasFactor form.terms place term kept.normal.factors there in
    let more = c.and_times-sum.ensures.value ∙ ap (λ (k : ℤ). plus sum (pos 1) (times_form stood k)) (to_z-of_z w32 term.factor fits.word) in
    let later : c.and_terms.result ≡ and_terms stands (drop (place + 1) form.terms) mid = search rules in
    sum_goes_on form kept place stands term stood sum mid c.and_terms.result there c.standing_form-stands_for.ensures.value more later
