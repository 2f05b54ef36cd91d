use Rattle.std.proofs.Common.{arith}
use Rattle.std.specs.Prelude.{pos}
use Rattle.pc_syntax.specs.Erasure.{expression_of}
use Rattle.pc_syntax.proofs.ErasureLaws.{expression_of-Element}
use Rattle.pc_lower.proofs.Lowered.{unary_room, unary_item, unary_operand, lays_unary}
use Rattle.pc_lower.proofs.Lowered.{element_small, element_array, element_temporary, element_first, element_place, element_room, element_index, lays_element}
use Rattle.pc_lower.proofs.Lowered.{binary_temporary, binary_above, binary_room, binary_left_value, binary_right_value, binary_right, binary_left, lays_binary}
use Rattle.pc_lower.proofs.Lowered.{is_conjunction, is_disjunction, shortcut_room, shortcut_copy, shortcut_left_value, truth_room, truth_item, shortcut_right}
use Rattle.pc_lower.proofs.Lowered.{test_room, shortcut_left, lays_conjunction, lays_disjunction}
use Rattle.pc_lower.proofs.Lowered.{choice_room, choice_test_value, choice_other_item, choice_other, choice_one_room, choice_one_item, choice_one, choice_test_room, choice_test, lays_choice}
use Rattle.pc_lower.proofs.expression.+lower_expression.Goals as goal

-- ---- a unary operator

pub lower_unary-lay_item-last-requires-clause-room : goal.lower_unary-lay_item-last-requires-clause-room
lower_unary-lay_item-last-requires-clause-room t c = unary_room c.requires.may

pub lower_unary-lay_item-last-requires-clause-fits : goal.lower_unary-lay_item-last-requires-clause-fits
lower_unary-lay_item-last-requires-clause-fits t c = rw (c.prefix_item-item.ensures, c.held.ensures) (unary_item c.requires.may)

pub lower_unary-lower_expression-requires : goal.lower_unary-lower_expression-requires
lower_unary-lower_expression-requires t c = (omega (arith, c.decreases), rw c.leading_to.ensures (unary_operand c.requires.may c.lay_item-last.ensures))

pub lower_unary-returns : goal.lower_unary-returns
lower_unary-returns t c =
    let item = rw (c.prefix_item-item.ensures, c.held.ensures) at c.lay_item-last.ensures in
    let operand = rw c.leading_to.ensures at c.lower_expression.ensures in
    lays_unary c.args.op (expression_of c.args.operand.now) c.args.site.temporary c.args.site.next item operand

-- ---- an element

pub lower_element-overflow_cast-element : goal.lower_element-overflow_cast-element
lower_element-overflow_cast-element t c = let small = element_small c.requires.may in omega (arith, small)

pub lower_element-lay_load-loaded-requires-clause-room : goal.lower_element-lay_load-loaded-requires-clause-room
lower_element-lay_load-loaded-requires-clause-room t c = element_room c.requires.may

pub lower_element-lay_load-loaded-requires-clause-array_there : goal.lower_element-lay_load-loaded-requires-clause-array_there
lower_element-lay_load-loaded-requires-clause-array_there t c = element_array c.requires.may

pub lower_element-lay_load-loaded-requires-clause-within_there : goal.lower_element-lay_load-loaded-requires-clause-within_there
lower_element-lay_load-loaded-requires-clause-within_there t c = rw c.next_temporary-within.ensures (element_temporary c.requires.may)

pub lower_element-lay_load-loaded-requires-clause-result_there : goal.lower_element-lay_load-loaded-requires-clause-result_there
lower_element-lay_load-loaded-requires-clause-result_there t c = element_first c.requires.may

pub lower_element-lay_load-loaded-requires-clause-index : goal.lower_element-lay_load-loaded-requires-clause-index
lower_element-lay_load-loaded-requires-clause-index t c = rw c.held.ensures (element_place c.requires.may)

pub lower_element-lower_expression-requires : goal.lower_element-lower_expression-requires
lower_element-lower_expression-requires t c = (omega (arith, c.decreases), rw c.leading_to.ensures (element_index c.requires.may c.lay_load-loaded.ensures))

pub lower_element-returns : goal.lower_element-returns
lower_element-returns t c line =
    let load = rw (c.next_temporary-within.ensures, c.held.ensures) at c.lay_load-loaded.ensures in
    let index = rw c.leading_to.ensures at c.lower_expression.ensures in
    lays_element c.args.array line c.args.at (expression_of c.args.index.now) c.args.site.temporary c.args.site.next load index

-- ---- a binary operator

pub lower_binary-held-second-requires : goal.lower_binary-held-second-requires
lower_binary-held-second-requires t c = rw c.next_temporary-above.ensures (binary_above c.requires.may)

pub lower_binary-lay_operation-last-requires-clause-room : goal.lower_binary-lay_operation-last-requires-clause-room
lower_binary-lay_operation-last-requires-clause-room t c = binary_room c.requires.may

pub lower_binary-lay_operation-last-requires-clause-result_there : goal.lower_binary-lay_operation-last-requires-clause-result_there
lower_binary-lay_operation-last-requires-clause-result_there t c = binary_temporary c.requires.may

pub lower_binary-lay_operation-last-requires-clause-left : goal.lower_binary-lay_operation-last-requires-clause-left
lower_binary-lay_operation-last-requires-clause-left t c = rw c.held-first.ensures (binary_left_value c.requires.may)

pub lower_binary-lay_operation-last-requires-clause-right : goal.lower_binary-lay_operation-last-requires-clause-right
lower_binary-lay_operation-last-requires-clause-right t c = rw (c.held-second.ensures, c.next_temporary-above.ensures) (binary_right_value c.requires.may)

pub lower_binary-lower_expression-middle-requires : goal.lower_binary-lower_expression-middle-requires
lower_binary-lower_expression-middle-requires t c =
    (omega (arith, c.decreases), rw (c.above.ensures, c.leading_to.ensures, c.next_temporary-above.ensures) (binary_right c.requires.may c.lay_operation-last.ensures))

pub lower_binary-lower_expression-requires : goal.lower_binary-lower_expression-requires
lower_binary-lower_expression-requires t c =
    let right = rw (c.above.ensures, c.leading_to.ensures) at c.lower_expression-middle.ensures in
    (omega (arith, c.decreases), rw c.leading_to-2.ensures (binary_left c.requires.may c.lay_operation-last.ensures right))

pub lower_binary-returns : goal.lower_binary-returns
lower_binary-returns t c =
    let operation = rw (c.held-first.ensures, c.held-second.ensures, c.next_temporary-above.ensures) at c.lay_operation-last.ensures in
    let right = rw (c.above.ensures, c.leading_to.ensures, c.next_temporary-above.ensures) at c.lower_expression-middle.ensures in
    let left = rw c.leading_to-2.ensures at c.lower_expression.ensures in
    lays_binary c.args.site.inside c.args.operation.op c.args.operation.line (expression_of c.args.left.now) (expression_of c.args.right.now)
    c.args.site.temporary c.args.site.next operation right left

-- ---- `&&`

pub lower_both-lay_item-skipped-requires-clause-room : goal.lower_both-lay_item-skipped-requires-clause-room
lower_both-lay_item-skipped-requires-clause-room t c = shortcut_room (is_conjunction _ _) c.requires.may

pub lower_both-lay_item-skipped-requires-clause-fits : goal.lower_both-lay_item-skipped-requires-clause-fits
lower_both-lay_item-skipped-requires-clause-fits t c = shortcut_copy (is_conjunction _ _) c.requires.may (pos 0)

pub lower_both-lay_item-last-requires-clause-room : goal.lower_both-lay_item-last-requires-clause-room
lower_both-lay_item-last-requires-clause-room t c = rw c.up_to.ensures (truth_room (is_conjunction _ _) c.requires.may c.lay_item-skipped.ensures)

pub lower_both-lay_item-last-requires-clause-fits : goal.lower_both-lay_item-last-requires-clause-fits
lower_both-lay_item-last-requires-clause-fits t c = rw c.held.ensures (truth_item (is_conjunction _ _) c.requires.may c.lay_item-skipped.ensures)

pub lower_both-lower_expression-second-requires : goal.lower_both-lower_expression-second-requires
lower_both-lower_expression-second-requires t c =
    let unequal = rw c.up_to.ensures at c.lay_item-last.ensures in
    (omega (arith, c.decreases), rw c.leading_to.ensures (shortcut_right (is_conjunction _ _) c.requires.may c.lay_item-skipped.ensures unequal))

pub lower_both-lay_test-test-requires-clause-room : goal.lower_both-lay_test-test-requires-clause-room
lower_both-lay_test-test-requires-clause-room t c =
    let unequal = rw c.up_to.ensures at c.lay_item-last.ensures in
    let right = rw c.leading_to.ensures at c.lower_expression-second.ensures in
    rw c.leading_to-2.ensures (test_room (is_conjunction _ _) c.requires.may c.lay_item-skipped.ensures unequal right)

pub lower_both-lay_test-test-requires-clause-on : goal.lower_both-lay_test-test-requires-clause-on
lower_both-lay_test-test-requires-clause-on t c = rw c.held-on.ensures (shortcut_left_value (is_conjunction _ _) c.requires.may)

pub lower_both-lower_expression-requires : goal.lower_both-lower_expression-requires
lower_both-lower_expression-requires t c =
    let unequal = rw c.up_to.ensures at c.lay_item-last.ensures in
    let right = rw c.leading_to.ensures at c.lower_expression-second.ensures in
    let test = rw c.leading_to-2.ensures at c.lay_test-test.ensures in
    (omega (arith, c.decreases), rw c.leading_to-3.ensures (shortcut_left (is_conjunction _ _) c.requires.may c.lay_item-skipped.ensures unequal right test))

pub lower_both-returns : goal.lower_both-returns
lower_both-returns t c =
    let unequal = rw (c.up_to.ensures, c.held.ensures) at c.lay_item-last.ensures in
    let right = rw c.leading_to.ensures at c.lower_expression-second.ensures in
    let test = rw (c.leading_to-2.ensures, c.held-on.ensures) at c.lay_test-test.ensures in
    let left = rw c.leading_to-3.ensures at c.lower_expression.ensures in
    lays_conjunction (expression_of c.args.left.now) (expression_of c.args.right.now) c.args.site.temporary c.args.site.next c.lay_item-skipped.ensures unequal right test left

-- ---- `||`

pub lower_either-lay_item-skipped-requires-clause-room : goal.lower_either-lay_item-skipped-requires-clause-room
lower_either-lay_item-skipped-requires-clause-room t c = shortcut_room (is_disjunction _ _) c.requires.may

pub lower_either-lay_item-skipped-requires-clause-fits : goal.lower_either-lay_item-skipped-requires-clause-fits
lower_either-lay_item-skipped-requires-clause-fits t c = shortcut_copy (is_disjunction _ _) c.requires.may (pos 1)

pub lower_either-lay_item-last-requires-clause-room : goal.lower_either-lay_item-last-requires-clause-room
lower_either-lay_item-last-requires-clause-room t c = rw c.up_to.ensures (truth_room (is_disjunction _ _) c.requires.may c.lay_item-skipped.ensures)

pub lower_either-lay_item-last-requires-clause-fits : goal.lower_either-lay_item-last-requires-clause-fits
lower_either-lay_item-last-requires-clause-fits t c = rw c.held.ensures (truth_item (is_disjunction _ _) c.requires.may c.lay_item-skipped.ensures)

pub lower_either-lower_expression-second-requires : goal.lower_either-lower_expression-second-requires
lower_either-lower_expression-second-requires t c =
    let unequal = rw c.up_to.ensures at c.lay_item-last.ensures in
    (omega (arith, c.decreases), rw c.leading_to.ensures (shortcut_right (is_disjunction _ _) c.requires.may c.lay_item-skipped.ensures unequal))

pub lower_either-lay_test-test-requires-clause-room : goal.lower_either-lay_test-test-requires-clause-room
lower_either-lay_test-test-requires-clause-room t c =
    let unequal = rw c.up_to.ensures at c.lay_item-last.ensures in
    let right = rw c.leading_to.ensures at c.lower_expression-second.ensures in
    rw c.leading_to-2.ensures (test_room (is_disjunction _ _) c.requires.may c.lay_item-skipped.ensures unequal right)

pub lower_either-lay_test-test-requires-clause-on : goal.lower_either-lay_test-test-requires-clause-on
lower_either-lay_test-test-requires-clause-on t c = rw c.held-on.ensures (shortcut_left_value (is_disjunction _ _) c.requires.may)

pub lower_either-lower_expression-requires : goal.lower_either-lower_expression-requires
lower_either-lower_expression-requires t c =
    let unequal = rw c.up_to.ensures at c.lay_item-last.ensures in
    let right = rw c.leading_to.ensures at c.lower_expression-second.ensures in
    let test = rw c.leading_to-2.ensures at c.lay_test-test.ensures in
    (omega (arith, c.decreases), rw c.leading_to-3.ensures (shortcut_left (is_disjunction _ _) c.requires.may c.lay_item-skipped.ensures unequal right test))

pub lower_either-returns : goal.lower_either-returns
lower_either-returns t c =
    let unequal = rw (c.up_to.ensures, c.held.ensures) at c.lay_item-last.ensures in
    let right = rw c.leading_to.ensures at c.lower_expression-second.ensures in
    let test = rw (c.leading_to-2.ensures, c.held-on.ensures) at c.lay_test-test.ensures in
    let left = rw c.leading_to-3.ensures at c.lower_expression.ensures in
    lays_disjunction (expression_of c.args.left.now) (expression_of c.args.right.now) c.args.site.temporary c.args.site.next c.lay_item-skipped.ensures unequal right test left

-- ---- `?:`

pub lower_choice-lay_item-last-requires-clause-room : goal.lower_choice-lay_item-last-requires-clause-room
lower_choice-lay_item-last-requires-clause-room t c = choice_room c.requires.may

pub lower_choice-lay_item-last-requires-clause-fits : goal.lower_choice-lay_item-last-requires-clause-fits
lower_choice-lay_item-last-requires-clause-fits t c = rw c.held-from.ensures (choice_other_item c.requires.may)

pub lower_choice-lower_expression-second-requires : goal.lower_choice-lower_expression-second-requires
lower_choice-lower_expression-second-requires t c = (omega (arith, c.decreases), rw c.leading_to.ensures (choice_other c.requires.may c.lay_item-last.ensures))

pub lower_choice-lay_item-middle-requires-clause-room : goal.lower_choice-lay_item-middle-requires-clause-room
lower_choice-lay_item-middle-requires-clause-room t c =
    let other = rw c.leading_to.ensures at c.lower_expression-second.ensures in
    rw c.up_to.ensures (choice_one_room c.requires.may c.lay_item-last.ensures other)

pub lower_choice-lay_item-middle-requires-clause-fits : goal.lower_choice-lay_item-middle-requires-clause-fits
lower_choice-lay_item-middle-requires-clause-fits t c =
    let other = rw c.leading_to.ensures at c.lower_expression-second.ensures in
    rw c.held-from-2.ensures (choice_one_item c.requires.may c.lay_item-last.ensures other)

pub lower_choice-lower_expression-first-requires : goal.lower_choice-lower_expression-first-requires
lower_choice-lower_expression-first-requires t c =
    let other = rw c.leading_to.ensures at c.lower_expression-second.ensures in
    let middle = rw c.up_to.ensures at c.lay_item-middle.ensures in
    (omega (arith, c.decreases), rw c.leading_to-2.ensures (choice_one c.requires.may c.lay_item-last.ensures other middle))

pub lower_choice-lay_test-start-requires-clause-room : goal.lower_choice-lay_test-start-requires-clause-room
lower_choice-lay_test-start-requires-clause-room t c =
    let other = rw c.leading_to.ensures at c.lower_expression-second.ensures in
    let middle = rw c.up_to.ensures at c.lay_item-middle.ensures in
    let one = rw c.leading_to-2.ensures at c.lower_expression-first.ensures in
    rw c.leading_to-3.ensures (choice_test_room c.requires.may c.lay_item-last.ensures other middle one)

pub lower_choice-lay_test-start-requires-clause-on : goal.lower_choice-lay_test-start-requires-clause-on
lower_choice-lay_test-start-requires-clause-on t c = rw c.held-on.ensures (choice_test_value c.requires.may)

pub lower_choice-lower_expression-requires : goal.lower_choice-lower_expression-requires
lower_choice-lower_expression-requires t c =
    let other = rw c.leading_to.ensures at c.lower_expression-second.ensures in
    let middle = rw c.up_to.ensures at c.lay_item-middle.ensures in
    let one = rw c.leading_to-2.ensures at c.lower_expression-first.ensures in
    let start = rw c.leading_to-3.ensures at c.lay_test-start.ensures in
    (omega (arith, c.decreases), rw c.leading_to-4.ensures (choice_test c.requires.may c.lay_item-last.ensures other middle one start))

pub lower_choice-returns : goal.lower_choice-returns
lower_choice-returns t c =
    let last = rw c.held-from.ensures at c.lay_item-last.ensures in
    let other = rw c.leading_to.ensures at c.lower_expression-second.ensures in
    let middle = rw (c.up_to.ensures, c.held-from-2.ensures) at c.lay_item-middle.ensures in
    let one = rw c.leading_to-2.ensures at c.lower_expression-first.ensures in
    let start = rw (c.leading_to-3.ensures, c.held-on.ensures) at c.lay_test-start.ensures in
    let test = rw c.leading_to-4.ensures at c.lower_expression.ensures in
    lays_choice (expression_of c.args.test.now) (expression_of c.args.one.now) (expression_of c.args.other.now) c.args.site.temporary c.args.site.next
    last other middle one start test

-- ---- all

pub lower_expression-returns-in-Element : goal.lower_expression-returns-in-Element
lower_expression-returns-in-Element t c =
    let is = expression_of-Element c.args.expression.now c.in-Element.symbol c.in-Element.line c.in-Element.at c.in-Element.index c.in-Element.is in
    let laid = c.lower_element.ensures c.in-Element.line in
    rw is (rw c.deref.ensures at laid)
