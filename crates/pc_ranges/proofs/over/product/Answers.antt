use Rattle.std.proofs.Common.{rules, sym, ◌∙◌, FitsSigned, w32}
use Rattle.std.proofs.lemmas.Int.{to_z-of_z}
use Rattle.pc_ranges.proofs.Spans.{product_made}
use Rattle.pc_ranges.proofs.over.product.Goals as goal

pub returns-then-is_small-2 : goal.returns-then-is_small-2
returns-then-is_small-2 c =
    let a_low : FitsSigned w32 c.args.a.low = search rules in
    let a_high : FitsSigned w32 c.args.a.high = search rules in
    let b_low : FitsSigned w32 c.args.b.low = search rules in
    let b_high : FitsSigned w32 c.args.b.high = search rules in
    let low = simp to_z-of_z at c.checked_mul.ensures in
    let high = simp to_z-of_z at c.checked_mul-then-is_small-2.ensures in
    c.span.ensures ∙ product_made c.args.a c.args.b c.checked_mul.result c.checked_mul-then-is_small-2.result (sym c.is_small.ensures ∙ c.if-is_small.true)
    (sym c.is_small-then-is_small.ensures ∙ c.if-is_small-2.true) low high
