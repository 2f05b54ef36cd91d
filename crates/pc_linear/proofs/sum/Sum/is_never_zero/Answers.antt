use Rattle.std.proofs.Common.{◌≡◌, ◌↔◌, ◌∙◌, subst, ap, true, List, ℤ, w32}
use Rattle.std.specs.Prelude.{nat_lt}
use Rattle.std.proofs.lemmas.Int.{to_z-of_z}
use Rattle.pc_linear.specs.declared.term.Term.{Term}
use Rattle.pc_linear.specs.Form.{Form}
use Rattle.pc_linear.specs.Equality.{PowerTells}
use Rattle.pc_linear.specs.models.Powers.{twos, common_twos}
use Rattle.pc_linear.proofs.Powers.{fewer_twos_as}
use Rattle.pc_linear.proofs.sum.Sum.is_never_zero.Goals as goal

pub returns : goal.returns
returns c =
    let d : Form = record { terms = c.self.inside.terms.items; constant = c.self.inside.constant } in
    subst (λ (f : Form). (nat_lt c.twos.result c.common_twos.result ≡ true) ↔ PowerTells f) c.self.view_is
    (fewer_twos_as d c.twos.result c.common_twos.result
    (c.twos.ensures ∙ ap (λ (z : ℤ). twos z) (to_z-of_z w32 c.self.inside.constant c.self.invariant.constant))
    (c.common_twos.ensures ∙ ap (λ (ts : List Term). common_twos 32 ts) c.as_slice.ensures.value))
