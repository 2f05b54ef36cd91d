use Rattle.std.proofs.Common.{sym, ◌∙◌}
use Rattle.pc_syntax.specs.Erasure.{expression_of}
use Rattle.pc_lower.proofs.Fills.{placed_first}
use Rattle.pc_lower.proofs.Spots.{some_of_size, value_alone, lays_none, lays_some}
use Rattle.pc_lower.proofs.value.lower_value.Goals as goal

pub returns-then-hold-eq0-clause-laid : goal.returns-then-hold-eq0-clause-laid
returns-then-hold-eq0-clause-laid c = rw c.empty.ensures (lays_none _ _ (expression_of c.args.value.now) c.requires.value (sym c.hold.ensures ∙ c.if-hold-eq0.true))

pub lower_expression-requires : goal.lower_expression-requires
lower_expression-requires c =
    rw c.above.ensures (record { may = value_alone c.requires.ready c.requires.value (λ none. c.if-hold-eq0.false (c.hold.ensures ∙ none)) })

pub returns-clause-laid : goal.returns-clause-laid
returns-clause-laid c =
    let laid = rw c.above.ensures at c.lower_expression.ensures in
    rw c.at.ensures (lays_some _ _ (expression_of c.args.value.now) laid)

pub returns-clause-begins : goal.returns-clause-begins
returns-clause-begins c =
    let laid = rw c.above.ensures at c.lower_expression.ensures in
    rw c.at.ensures (placed_first c.requires.ready.room laid
    (some_of_size (expression_of c.args.value.now) (λ none. c.if-hold-eq0.false (c.hold.ensures ∙ none))))
