use Rattle.std.proofs.Common.{◌≡◌, ◌↔◌, true, subst}
use Rattle.pc_linear.specs.Form.{Form}
use Rattle.pc_linear.specs.Equality.{IsAlwaysZero}
use Rattle.pc_linear.proofs.Equalities.{always-exact, same-exact}
use Rattle.pc_linear.proofs.form.LinForm.always_equal.Goals as goal

pub returns-clause-always : goal.returns-clause-always
returns-clause-always c =
    always-exact c.is_zero.result c.args.self.now c.args.other.now c.plus.ensures.left.normal c.plus.ensures.right.normal
    (subst (λ (d : Form). (c.is_zero.result ≡ true) ↔ IsAlwaysZero d) c.plus.ensures.sum c.is_zero.ensures)

pub returns-clause-same : goal.returns-clause-same
returns-clause-same c =
    same-exact c.is_zero.result c.args.self.now c.args.other.now c.plus.ensures.left.normal c.plus.ensures.right.normal
    (subst (λ (d : Form). (c.is_zero.result ≡ true) ↔ IsAlwaysZero d) c.plus.ensures.sum c.is_zero.ensures)
