use Rattle.std.proofs.Common.{◌≡◌, ◌↔◌, true, subst}
use Rattle.pc_linear.specs.Form.{Form}
use Rattle.pc_linear.specs.Equality.{PowerTells}
use Rattle.pc_linear.proofs.Equalities.{never-exact, sometimes-exact, never_zero_tells}
use Rattle.pc_linear.proofs.form.LinForm.never_equal.Goals as goal

pub returns-clause-never : goal.returns-clause-never
returns-clause-never c =
    never-exact c.is_never_zero.result c.args.self.now c.args.other.now c.plus.ensures.left.normal
    (subst (λ (d : Form). (c.is_never_zero.result ≡ true) ↔ PowerTells d) c.plus.ensures.sum c.is_never_zero.ensures)

pub returns-clause-sometimes : goal.returns-clause-sometimes
returns-clause-sometimes c =
    sometimes-exact c.is_never_zero.result c.args.self.now c.args.other.now c.plus.ensures.left.normal
    (subst (λ (d : Form). (c.is_never_zero.result ≡ true) ↔ PowerTells d) c.plus.ensures.sum c.is_never_zero.ensures)

pub returns-clause-difference : goal.returns-clause-difference
returns-clause-difference c =
    never_zero_tells c.is_never_zero.result c.args.self.now c.args.other.now c.plus.ensures.left.normal
    (subst (λ (d : Form). (c.is_never_zero.result ≡ true) ↔ PowerTells d) c.plus.ensures.sum c.is_never_zero.ensures)
