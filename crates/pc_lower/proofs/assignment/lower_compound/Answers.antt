use Rattle.pc_syntax.specs.Erasure.{expression_of}
use Rattle.pc_lower.proofs.Assigned.{held_value, lays_compound}
use Rattle.pc_lower.proofs.assignment.lower_compound.Goals as goal

pub lay_operation-middle-requires-clause-right : goal.lay_operation-middle-requires-clause-right
lay_operation-middle-requires-clause-right c = rw c.held-second.ensures (held_value c.requires.value)

pub returns : goal.returns
returns c =
    let operation = rw (c.above-within.ensures, c.leading_to.ensures, c.held-second.ensures) at c.lay_operation-middle.ensures in
    let value = rw (c.above.ensures, c.leading_to-2.ensures) at c.lower_expression.ensures in
    lays_compound c.args.scalar 0 c.args.operation.line c.args.site.next c.args.operation.op (expression_of c.args.value.now) c.requires.scalar
    c.lay_item-last.ensures operation value
