use Rattle.pc_syntax.specs.Erasure.{expression_of}
use Rattle.pc_lower.proofs.Assigned.{held_value, lays_update}
use Rattle.pc_lower.proofs.assignment.lower_update.Goals as goal

pub lower_change-changed-requires-clause-index : goal.lower_change-changed-requires-clause-index
lower_change-changed-requires-clause-index c = rw c.requires.place (held_value c.requires.index)

pub lay_load-loaded-requires-clause-index : goal.lay_load-loaded-requires-clause-index
lay_load-loaded-requires-clause-index c = rw c.requires.place (held_value c.requires.index)

pub returns : goal.returns
returns c =
    let change = rw (c.above.ensures, c.hold-above.ensures, c.requires.place) at c.lower_change-changed.ensures in
    let load = rw (c.above-within.ensures, c.leading_to.ensures, c.hold-above.ensures, c.requires.place) at c.lay_load-loaded.ensures in
    let index = rw (c.above-2.ensures, c.leading_to-2.ensures) at c.lower_expression.ensures in
    lays_update c.args.element.array 0 c.args.element.line c.args.operation.line c.args.site.next c.args.operation.op
    (expression_of c.args.index.now) (expression_of c.args.value.now) change load index
