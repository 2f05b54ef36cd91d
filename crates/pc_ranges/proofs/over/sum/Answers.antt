use Rattle.std.proofs.Common.{rules, sym, ◌∙◌, FitsSigned, w32}
use Rattle.std.proofs.lemmas.Int.{to_z-of_z}
use Rattle.pc_ranges.proofs.Spans.{sum_made}
use Rattle.pc_ranges.proofs.over.sum.Goals as goal

pub returns-then-is_bounded-2 : goal.returns-then-is_bounded-2
returns-then-is_bounded-2 c =
    let a_low : FitsSigned w32 c.args.a.low = search rules in
    let a_high : FitsSigned w32 c.args.a.high = search rules in
    let b_low : FitsSigned w32 c.args.b.low = search rules in
    let b_high : FitsSigned w32 c.args.b.high = search rules in
    let low = simp to_z-of_z at c.checked_add.ensures in
    let high = simp to_z-of_z at c.checked_add-then-is_bounded-2.ensures in
    c.span.ensures ∙ sum_made c.args.a c.args.b c.checked_add.result c.checked_add-then-is_bounded-2.result (sym c.is_bounded.ensures ∙ c.if-is_bounded.true)
    (sym c.is_bounded-then-is_bounded.ensures ∙ c.if-is_bounded-2.true) low high
