use Rattle.std.proofs.Common.{rules, sym, ap, ◌∙◌}
use Rattle.pc_shared.proofs.Equality.{item_tells}
use Rattle.pc_shared.proofs.Giving.{same_parts}
use Rattle.pc_shared.proofs.merging.Definition.is_same.Goals as goal

pub returns-then-eq : goal.returns-then-eq
returns-then-eq c =
    let a = c.args.self.now in
    let b = c.args.other.now in
    let same = c.always_equal.ensures.same in (
      λ e. same_parts a b (search rules) (search rules) (item_tells a.item b.item (sym c.eq.ensures ∙ c.if-eq.true)) (same.0 e),
      λ e. same.1 (ap (λ d. d.form) e),
    )
