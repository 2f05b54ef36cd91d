use Rattle.std.proofs.Common.{arith}
use Rattle.pc_syntax.specs.Erasure.{expression_of}
use Rattle.pc_lower.proofs.Assigned.{held_value, store_fits, lays_change}
use Rattle.pc_lower.proofs.assignment.lower_change.Goals as goal

pub lay_item-last-requires-clause-fits : goal.lay_item-last-requires-clause-fits
lay_item-last-requires-clause-fits c =
    let some = c.requires.value.temporaries in
    store_fits c.args.element.array _ _ _ c.requires.array c.requires.index (omega (arith, some))

pub lay_operation-middle-requires-clause-right : goal.lay_operation-middle-requires-clause-right
lay_operation-middle-requires-clause-right c = rw c.held-second.ensures (held_value c.requires.value)

pub returns : goal.returns
returns c =
    let operation = rw (c.leading_to.ensures, c.held-second.ensures) at c.lay_operation-middle.ensures in
    let value = rw (c.above.ensures, c.leading_to-2.ensures) at c.lower_expression.ensures in
    lays_change c.args.element.array c.args.operation.line c.args.site.next c.args.site.temporary c.args.operation.op c.args.element.index
    (expression_of c.args.value.now) c.lay_item-last.ensures operation value
