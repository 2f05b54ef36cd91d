use Rattle.std.proofs.Common.{rules, ◌≡◌, ◌∙◌, sym, ap, subst, ℤ, w32, to_z, of_z}
use Rattle.std.specs.Prelude.{◌+ℤ◌, ◌*ℤ◌, FitsSigned}
use Rattle.std.specs.Int.{int_wrap}
use Rattle.std.proofs.lemmas.Int.{to_z-of_z}
use Rattle.pc_linear.specs.Form.{Form, IsNormal}
use Rattle.pc_linear.specs.Combine.{plus, add_times}
use Rattle.pc_linear.proofs.Normal.{plus-normal}
use Rattle.pc_linear.proofs.sum.Sum.plus.Goals as goal

-- the parts are those of the sum
parts : (c : goal.After-add_product-constant)
    → record { terms = c.add_times.new.terms.items; constant = to_z w32 (of_z w32 c.add_product-constant.result) } ≡ plus c.args.left.now c.args.number c.args.right.now
parts c =
    let f = c.args.left.now in
    let g = c.args.right.now in
    let n = c.args.number in
    let a : FitsSigned w32 f.constant = c.offset.ensures.kept.normal.constant in
    let b : FitsSigned w32 g.constant = c.offset-2.ensures.kept.normal.constant in
    let sum_fits : FitsSigned w32 c.add_product-constant.result = search rules in
    let left : to_z w32 (of_z w32 c.offset.result) ≡ f.constant = ap (λ (z : ℤ). to_z w32 (of_z w32 z)) c.offset.ensures.value ∙ to_z-of_z w32 f.constant a in
    let right : to_z w32 (of_z w32 c.offset-2.result) ≡ g.constant = ap (λ (z : ℤ). to_z w32 (of_z w32 z)) c.offset-2.ensures.value ∙ to_z-of_z w32 g.constant b in
    let constant : to_z w32 (of_z w32 c.add_product-constant.result) ≡ int_wrap w32 (f.constant +ℤ (n *ℤ g.constant)) =
    to_z-of_z w32 c.add_product-constant.result sum_fits ∙ c.add_product-constant.ensures ∙ (λ i. int_wrap w32 (left i +ℤ (to_z-of_z w32 n c.ranges.number i *ℤ right i))) in
    let terms : c.add_times.new.terms.items ≡ add_times n g.terms f.terms =
    c.add_times.ensures ∙ (λ i. add_times (to_z-of_z w32 n c.ranges.number i) (c.terms-2.ensures.terms i) ((c.with_room-terms.ensures ∙ c.terms.ensures.terms) i)) in
    λ i. record { terms = terms i; constant = constant i }

pub invariant_of-result : goal.invariant_of-result
invariant_of-result c = subst (λ (h : Form). IsNormal h) (sym (parts c)) (plus-normal c.args.left.now c.args.number c.args.right.now c.offset.ensures.kept.normal)

pub returns-clause-sum : goal.returns-clause-sum
returns-clause-sum c = parts c
