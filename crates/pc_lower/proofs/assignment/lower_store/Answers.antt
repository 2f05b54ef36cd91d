use Rattle.pc_syntax.specs.Erasure.{expression_of}
use Rattle.pc_lower.proofs.Assigned.{held_value, store_fits, lays_store}
use Rattle.pc_lower.proofs.assignment.lower_store.Goals as goal

pub lay_item-last-requires-clause-fits : goal.lay_item-last-requires-clause-fits
lay_item-last-requires-clause-fits c =
    rw (c.requires.place, c.held.ensures, c.hold-above.ensures)
    (store_fits c.args.element.array _ _ _ c.requires.array (held_value c.requires.index) (held_value c.requires.value))

pub lay_bounds-bounds-requires-clause-index : goal.lay_bounds-bounds-requires-clause-index
lay_bounds-bounds-requires-clause-index c = rw c.requires.place (held_value c.requires.index)

pub returns : goal.returns
returns c =
    let store = rw (c.requires.place, c.held.ensures, c.hold-above.ensures) at c.lay_item-last.ensures in
    let bounds = rw (c.above-within.ensures, c.leading_to.ensures, c.hold-above.ensures, c.hold.ensures, c.requires.place) at c.lay_bounds-bounds.ensures in
    let value = rw (c.above.ensures, c.leading_to-2.ensures, c.hold-above.ensures) at c.lower_expression-middle.ensures in
    let index = rw (c.above-2.ensures, c.leading_to-3.ensures) at c.lower_expression.ensures in
    lays_store c.args.element.array 0 c.args.element.line 0 c.args.site.next (expression_of c.args.index.now) (expression_of c.args.value.now) store bounds value index
