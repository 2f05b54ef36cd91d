use Rattle.std.proofs.Common.{rules, ◌≢◌, ◌∙◌, ℤ, pos, w32, ap}
use Rattle.std.specs.Prelude.{FitsSigned}
use Rattle.std.proofs.lemmas.Int.{to_z-of_z}
use Rattle.pc_rebase.specs.models.Rewriting.{replaced}
use Rattle.pc_rebase.proofs.Replacing.{is_replaced}
use Rattle.pc_rebase.proofs.rewriting.rewritten.Goals as goal

pub returns : goal.returns
returns c =
    let form = c.args.form.now in
    let factor = c.factor_from-factor.result in
    let fits : FitsSigned w32 factor = search rules in
    let other : factor ≢ pos 0 = search rules in
    is_replaced form c.args.variable factor c.factor_from-factor.ensures.kept c.factor_from-factor.ensures.value
    c.args.parameter.now c.args.base c.replaced.result c.replaced.ensures.kept c.requires.form c.requires.parameter other
    (c.replaced.ensures.value ∙ ap (λ (z : ℤ). replaced form z c.args.base c.args.parameter.now) (to_z-of_z w32 factor fits))
