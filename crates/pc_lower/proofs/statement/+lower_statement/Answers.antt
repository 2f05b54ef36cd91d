use Rattle.std.proofs.Common.{◌≡◌, suc, ◌-◌, ◌<◌, inl, inr, length, refl, ap, arith}
use Rattle.std.specs.Prelude.{option_map}
use Rattle.pc_syntax.specs.declared.statement.Stmt.{Stmt}
use Rattle.pc_syntax.specs.Erasure.{expression_of, statement_of, optional_of, list_of}
use Rattle.pc_syntax.proofs.ErasureLaws.{statement_of-Block, statement_of-Print, statement_of-If, statement_of-While, statement_of-Assign, statement_of-Do, statement_of-For, optional_of-Some}
use Rattle.pc_lower.proofs.Weights.{statement_weight}
use Rattle.pc_lower.specs.SourceLoops.{loop_count}
use Rattle.pc_lower.proofs.Fills.{test_kept, placed_test_still, tested_still}
use Rattle.pc_lower.proofs.Tested.{tested_both, tested_round, all_still, turn_tested, closed_tested, all_closed}
use Rattle.pc_lower.proofs.Constructs.{none_laid, item_weight, item_sound, item_spot, item_numbers, item_laid}
use Rattle.pc_lower.proofs.Compounds.{lays_branch, lays_while, lays_do, lays_body_and_step, lays_turns, lays_for}
use Rattle.pc_lower.proofs.Constructs.{lays_scope, lays_branch_of, lays_printing, lays_while_of, lays_present, lays_do_of, lays_for_of, for_spot, for_sound, held_of, lays_assignment}
use Rattle.pc_lower.proofs.statement.+lower_statement.Goals as goal

-- ---- statements in order

pub lower_list-loop-at-init : goal.lower_list-loop-at-init
lower_list-loop-at-init t c = rw c.len-at.ensures (none_laid c.args.draft.now c.args.spot c.args.items.now c.requires.spot.next c.empty-laid.ensures)

pub lower_list-lower_statement-laid-requires : goal.lower_list-lower_statement-laid-requires
lower_list-lower_statement-laid-requires t c =
    let positive = c.loop-at-test.true in
    let most = c.loop-at.auto.at in
    let count = c.len-at.ensures in
    let follows : c.loop-at.at ≡ suc (c.loop-at.at - 1) = omega (arith, positive) in
    let below : c.loop-at.at - 1 < length c.args.items.now = omega (arith, positive, most, count) in
    let read = rw c.as_slice.ensures at c.index-as_slice-at.is in
    let i = c.loop-at.at - 1 in
    let item = c.index-as_slice-at.result in
    let lighter = item_weight c.args.items.now i c.loop-at.at item c.requires.spot c.requires.sound c.loop-at.invariant follows below read in (
      omega (arith, c.decreases, lighter),
      (
        rw c.before-in-loop-at.ensures (item_spot c.args.items.now i c.loop-at.at item c.requires.spot c.requires.sound c.loop-at.invariant follows below read),
        item_sound c.args.items.now i c.loop-at.at item c.requires.spot c.requires.sound c.loop-at.invariant follows below read,
      ),
    )

pub lower_list-overflow_sub-loops_end : goal.lower_list-overflow_sub-loops_end
lower_list-overflow_sub-loops_end t c =
    let positive = c.loop-at-test.true in
    let most = c.loop-at.auto.at in
    let count = c.len-at.ensures in
    let follows : c.loop-at.at ≡ suc (c.loop-at.at - 1) = omega (arith, positive) in
    let below : c.loop-at.at - 1 < length c.args.items.now = omega (arith, positive, most, count) in
    let read = rw c.as_slice.ensures at c.index-as_slice-at.is in
    let loops = c.loop_count-loops_end.ensures in
    let numbers = item_numbers c.args.items.now (c.loop-at.at - 1) c.loop-at.at c.index-as_slice-at.result
    c.requires.spot c.requires.sound c.loop-at.invariant follows below read in
    omega (arith, loops, numbers)

pub lower_list-loop-at-preserved : goal.lower_list-loop-at-preserved
lower_list-loop-at-preserved t c =
    let positive = c.loop-at-test.true in
    let most = c.loop-at.auto.at in
    let count = c.len-at.ensures in
    let follows : c.loop-at.at ≡ suc (c.loop-at.at - 1) = omega (arith, positive) in
    let below : c.loop-at.at - 1 < length c.args.items.now = omega (arith, positive, most, count) in
    let read = rw c.as_slice.ensures at c.index-as_slice-at.is in
    let i = c.loop-at.at - 1 in
    let item = c.index-as_slice-at.result in
    let loops = c.loop_count-loops_end.ensures in
    let fits = c.loop-at.auto.loops_end-fits in
    let numbers = item_numbers c.args.items.now i c.loop-at.at item c.requires.spot c.requires.sound c.loop-at.invariant follows below read in
    let laid = rw c.before-in-loop-at.ensures at c.lower_statement-laid.ensures.laid in
    let tested = rw c.before-in-loop-at.ensures at c.lower_statement-laid.ensures.tested in
    item_laid c.args.items.now i c.loop-at.at item c.requires.spot c.requires.sound c.loop-at.invariant follows below read
    laid c.lower_statement-laid.ensures.begins (omega (arith, loops, fits, numbers)) tested

pub lower_list-returns-clause-laid : goal.lower_list-returns-clause-laid
lower_list-returns-clause-laid t c =
    let ended : c.loop-at.at ≡ 0 = let none = c.loop-at-test.false in omega (arith, none) in
    let laid = rw ended at c.loop-at.invariant in
    laid.lays

pub lower_list-returns-clause-begins : goal.lower_list-returns-clause-begins
lower_list-returns-clause-begins t c = c.loop-at.invariant.begins

pub lower_list-returns-clause-tested : goal.lower_list-returns-clause-tested
lower_list-returns-clause-tested t c =
    let ended : c.loop-at.at ≡ 0 = let none = c.loop-at-test.false in omega (arith, none) in
    let laid = rw ended at c.loop-at.invariant in
    laid.tested

-- ---- the parts implement the whole

pub lower_branch-returns-clause-laid : goal.lower_branch-returns-clause-laid
lower_branch-returns-clause-laid t c =
    let loops = c.branch_loops.ensures in
    let numbers = c.requires.spot.numbers in
    let test = rw (c.up_to-site.ensures, c.site.ensures) at c.lower_condition.ensures in
    rw c.at.ensures
    (lays_branch _ _ _ _ _ _ _ c.lower_optional-other.ensures.laid c.lower_statement-chosen.ensures.laid test (omega (arith, loops, numbers)))

pub lower_while-returns-clause-laid : goal.lower_while-returns-clause-laid
lower_while-returns-clause-laid t c line =
    let room = c.requires.spot.room.within in
    let nodes = c.statement_size.ensures in
    let turn = (rw c.turn.ensures at c.lower_turn-header.ensures.turn) (c.args.spot.end - 1 - c.statement_size.result) refl in
    let loops = c.loop_count.ensures in
    let numbers = c.requires.spot.numbers in
    let there = c.requires.spot.loops_there in
    rw (c.close_loop.ensures, c.at.ensures)
    (lays_while line _ _ _ _ _ _ _ turn c.lower_statement-yes.ensures.laid (omega (arith, room, nodes)) c.requires.spot.room.there
    (omega (arith, loops, numbers, there)) (omega (arith, loops, numbers)))

pub lower_while-close_loop-requires-clause-test : goal.lower_while-close_loop-requires-clause-test
lower_while-close_loop-requires-clause-test t c =
    let room = c.requires.spot.room.within in
    let nodes = c.statement_size.ensures in
    let size = c.lower_statement-yes.ensures.laid.size_is in
    let turn = (rw c.turn.ensures at c.lower_turn-header.ensures.turn) (c.args.spot.end - 1 - c.statement_size.result) refl in
    test_kept turn.tested c.lower_statement-yes.ensures.laid.fills (inl (omega (arith, room, nodes, size)))

pub lower_do-returns-clause-laid : goal.lower_do-returns-clause-laid
lower_do-returns-clause-laid t c line =
    let room = c.requires.spot.room.within in
    let turn = (rw c.turn.ensures at c.lower_turn-next.ensures.turn) (c.args.spot.end - 1) refl in
    let loops = c.loop_count.ensures in
    let numbers = c.requires.spot.numbers in
    let there = c.requires.spot.loops_there in
    rw c.close_loop.ensures
    (lays_do line _ _ _ _ _ _ _ turn c.lower_statement-laid.ensures.laid (omega (arith, room)) c.requires.spot.room.there
    (omega (arith, loops, numbers, there)) (omega (arith, loops, numbers)))

pub lower_do-close_loop-requires-clause-test : goal.lower_do-close_loop-requires-clause-test
lower_do-close_loop-requires-clause-test t c =
    let turn = (rw c.turn.ensures at c.lower_turn-next.ensures.turn) (c.args.spot.end - 1) refl in
    let size = turn.size_is in
    test_kept turn.tested c.lower_statement-laid.ensures.laid.fills (inr (omega (arith, size)))

pub lower_round-returns-clause-laid : goal.lower_round-returns-clause-laid
lower_round-returns-clause-laid t c =
    let loops = c.loop_count.ensures in
    let numbers = c.requires.spot.numbers in
    let body = rw c.round.ensures at c.lower_statement.ensures.laid in
    lays_body_and_step _ _ _ _ _ _ _ c.lower_optional-after.ensures.laid body (omega (arith, loops, numbers))

pub lower_turns-returns-clause-laid : goal.lower_turns-returns-clause-laid
lower_turns-returns-clause-laid t c =
    let room = c.requires.spot.room.within in
    let nodes = c.statement_size.ensures in
    let others = c.branch_size.ensures in
    let turn = (rw c.turn.ensures at c.lower_turn-header.ensures.turn) (c.args.spot.end - 1 - c.statement_size.result - c.branch_size.result) refl in
    rw c.close_loop.ensures
    (lays_turns _ _ _ _ _ _ _ _ turn c.lower_round-yes.ensures.laid (omega (arith, room, nodes, others)) c.requires.spot.room.there
    c.requires.own c.requires.number)

pub lower_turns-close_loop-requires-clause-test : goal.lower_turns-close_loop-requires-clause-test
lower_turns-close_loop-requires-clause-test t c =
    let room = c.requires.spot.room.within in
    let nodes = c.statement_size.ensures in
    let others = c.branch_size.ensures in
    let size = c.lower_round-yes.ensures.laid.size_is in
    let turn = (rw c.turn.ensures at c.lower_turn-header.ensures.turn) (c.args.spot.end - 1 - c.statement_size.result - c.branch_size.result) refl in
    test_kept turn.tested c.lower_round-yes.ensures.laid.fills (inl (omega (arith, room, nodes, others, size)))

pub lower_for-returns-clause-laid : goal.lower_for-returns-clause-laid
lower_for-returns-clause-laid t c line =
    let numbers = c.requires.spot.numbers in
    let body = c.loop_count.ensures in
    let step = c.branch_loops.ensures in
    let count = c.list_loops.ensures in
    let first = rw (c.before-2.ensures, c.at.ensures) at c.lower_list.ensures.laid in
    lays_for line _ _ _ _ _ _ _ _ _ c.lower_turns-header.ensures.laid first (omega (arith, numbers, body, step, count)) (omega (arith, numbers, body, step))

pub lower_statement-returns-in-Block-clause-laid : goal.lower_statement-returns-in-Block-clause-laid
lower_statement-returns-in-Block-clause-laid t c =
    let is = statement_of-Block c.args.statement.now c.in-Block.items c.in-Block.is in
    rw is (lays_scope _ _ _ _ _ _ c.lower_list.ensures.laid)

pub lower_statement-returns-in-If-clause-laid : goal.lower_statement-returns-in-If-clause-laid
lower_statement-returns-in-If-clause-laid t c =
    let is = statement_of-If c.args.statement.now c.in-If.line c.in-If.test c.in-If.yes c.in-If.no c.in-If.is in
    rw is (rw c.deref.ensures at (lays_branch_of _ _ _ _ _ c.in-If.line _ _ _ c.lower_branch.ensures.laid))

pub lower_statement-returns-in-Print-clause-laid : goal.lower_statement-returns-in-Print-clause-laid
lower_statement-returns-in-Print-clause-laid t c =
    let is = statement_of-Print c.args.statement.now c.in-Print.line c.in-Print.value c.in-Print.is in
    let laid = rw c.site-site.ensures at c.lower_print.ensures in
    rw (is, c.at-in-Print.ensures) (lays_printing _ _ _ _ c.in-Print.line (expression_of c.in-Print.value) laid)

pub lower_statement-returns-in-While-clause-laid : goal.lower_statement-returns-in-While-clause-laid
lower_statement-returns-in-While-clause-laid t c =
    let is = statement_of-While c.args.statement.now c.in-While.line c.in-While.test c.in-While.body c.in-While.is in
    rw is (rw c.deref-in-While.ensures at (lays_while_of _ _ _ _ _ c.in-While.line _ _ (c.lower_while.ensures.laid c.in-While.line)))

pub lower_optional-returns-in-Some-clause-laid : goal.lower_optional-returns-in-Some-clause-laid
lower_optional-returns-in-Some-clause-laid t c =
    let is = optional_of-Some c.args.statement.now c.in-Some.statement c.in-Some.is in
    rw is (rw c.deref.ensures at (lays_present _ _ _ _ _ _ c.lower_statement.ensures.laid))

pub lower_statement-returns-in-For-clause-laid : goal.lower_statement-returns-in-For-clause-laid
lower_statement-returns-in-For-clause-laid t c =
    let is = statement_of-For c.args.statement.now c.in-For.line c.in-For.first c.in-For.test c.in-For.step c.in-For.body c.in-For.is in
    rw is (rw c.deref-in-For.ensures at (lays_for_of _ _ _ _ _ c.in-For.line _ _ _ _ (c.lower_for.ensures.laid c.in-For.line)))

pub lower_statement-returns-in-Do-clause-laid : goal.lower_statement-returns-in-Do-clause-laid
lower_statement-returns-in-Do-clause-laid t c =
    let is = statement_of-Do c.args.statement.now c.in-Do.line c.in-Do.body c.in-Do.test c.in-Do.is in
    rw is (rw c.deref-in-Do.ensures at (lays_do_of _ _ _ _ _ c.in-Do.line _ _ (c.lower_do.ensures.laid c.in-Do.line)))

pub lower_statement-lower_for-requires : goal.lower_statement-lower_for-requires
lower_statement-lower_for-requires t c =
    let first = list_of c.in-For.first in
    let test = expression_of c.in-For.test in
    let step = optional_of c.in-For.step in
    let body = statement_of c.in-For.body.value in
    let is = statement_of-For c.args.statement.now c.in-For.line c.in-For.first c.in-For.test c.in-For.step c.in-For.body c.in-For.is in
    let whole = ap statement_weight is in
    let same = ap (λ (x : Stmt). statement_weight (statement_of x)) c.deref-in-For.ensures in
    let spot = for_spot c.in-For.line first test step body (rw is at c.requires.spot) in
    let sound = for_sound c.in-For.line first test step body _ (rw is at c.requires.sound) in (
      omega (arith, c.decreases, whole, same),
      (
        rw c.deref-in-For.ensures spot,
        (sound.0, (held_of test sound.1.0, (sound.1.1.0, rw c.deref-in-For.ensures sound.1.1.1))),
      ),
    )

pub lower_statement-returns-in-Assign-clause-laid : goal.lower_statement-returns-in-Assign-clause-laid
lower_statement-returns-in-Assign-clause-laid t c =
    let is = statement_of-Assign c.args.statement.now c.in-Assign.symbol c.in-Assign.line c.in-Assign.index c.in-Assign.bracket c.in-Assign.op c.in-Assign.at
    c.in-Assign.value c.in-Assign.is in
    let laid = rw (c.new-target.ensures, c.site-site.ensures) at c.lower_assignment.ensures in
    rw (is, c.at-in-Assign.ensures)
    (lays_assignment c.args.spot.break_to c.args.spot.continue_to c.args.spot.return_to _ c.in-Assign.symbol c.in-Assign.line
    (option_map expression_of c.in-Assign.index) c.in-Assign.bracket c.in-Assign.op c.in-Assign.at (expression_of c.in-Assign.value) laid)

-- ---- each loop has a test

pub lower_branch-returns-clause-tested : goal.lower_branch-returns-clause-tested
lower_branch-returns-clause-tested t c =
    let loops = c.branch_loops.ensures in
    let numbers = c.requires.spot.numbers in
    let others = all_still c.lower_statement-chosen.ensures.laid.fills c.lower_optional-other.ensures.tested in
    all_still c.lower_condition.ensures.fills (tested_both _ c.lower_statement-chosen.ensures.tested others (omega (arith, loops, numbers)) refl)

pub lower_while-returns-clause-tested : goal.lower_while-returns-clause-tested
lower_while-returns-clause-tested t c =
    let loops = c.loop_count.ensures in
    let numbers = c.requires.spot.numbers in
    let turn = (rw c.turn.ensures at c.lower_turn-header.ensures.turn) (c.args.spot.end - 1 - c.statement_size.result) refl in
    let own = placed_test_still c.lower_statement-yes.ensures.laid.fills (turn_tested turn) in
    let all = tested_round (_, own) c.lower_statement-yes.ensures.tested (omega (arith, loops, numbers)) in
    rw c.close_loop.ensures (all_closed _ _ _ _ _ refl own.test all)

pub lower_do-returns-clause-tested : goal.lower_do-returns-clause-tested
lower_do-returns-clause-tested t c =
    let loops = c.loop_count.ensures in
    let numbers = c.requires.spot.numbers in
    let turn = (rw c.turn.ensures at c.lower_turn-next.ensures.turn) (c.args.spot.end - 1) refl in
    let own = placed_test_still c.lower_statement-laid.ensures.laid.fills (turn_tested turn) in
    let all = tested_round (_, own) c.lower_statement-laid.ensures.tested (omega (arith, loops, numbers)) in
    rw c.close_loop.ensures (all_closed _ _ _ _ _ refl own.test all)

pub lower_round-returns-clause-tested : goal.lower_round-returns-clause-tested
lower_round-returns-clause-tested t c =
    let loops = c.loop_count.ensures in
    let numbers = c.requires.spot.numbers in
    let body = rw c.round.ensures at c.lower_statement.ensures.laid in
    let tested = rw c.round.ensures at c.lower_statement.ensures.tested in
    tested_both _ (all_still body.fills c.lower_optional-after.ensures.tested) tested (omega (arith, loops, numbers)) refl

pub lower_turns-returns-clause-own : goal.lower_turns-returns-clause-own
lower_turns-returns-clause-own t c =
    let turn = (rw c.turn.ensures at c.lower_turn-header.ensures.turn) (c.args.spot.end - 1 - c.statement_size.result - c.branch_size.result) refl in
    let own = placed_test_still c.lower_round-yes.ensures.laid.fills (turn_tested turn) in
    rw c.close_loop.ensures (c.args.spot.end - 1 - c.statement_size.result - c.branch_size.result, closed_tested c.lower_round-yes.new.draft _ _ _ _ refl own.test own)

pub lower_turns-returns-clause-tested : goal.lower_turns-returns-clause-tested
lower_turns-returns-clause-tested t c =
    let turn = (rw c.turn.ensures at c.lower_turn-header.ensures.turn) (c.args.spot.end - 1 - c.statement_size.result - c.branch_size.result) refl in
    let own = placed_test_still c.lower_round-yes.ensures.laid.fills (turn_tested turn) in
    rw c.close_loop.ensures (all_closed _ _ _ _ _ refl own.test c.lower_round-yes.ensures.tested)

pub lower_for-returns-clause-tested : goal.lower_for-returns-clause-tested
lower_for-returns-clause-tested t c =
    let first = rw (c.before-2.ensures, c.at.ensures) at c.lower_list.ensures.laid in
    let tested = rw c.before-2.ensures at c.lower_list.ensures.tested in
    let turns = all_still first.fills c.lower_turns-header.ensures.tested in
    let own = tested_still first.fills c.lower_turns-header.ensures.own in
    let numbers = c.requires.spot.numbers in
    let body = c.loop_count.ensures in
    let step = c.branch_loops.ensures in
    let count = c.list_loops.ensures in
    tested_round own (tested_both _ tested turns (omega (arith, numbers, body, step, count)) refl) (omega (arith, numbers, body, step, count))

pub lower_statement-returns-in-For-clause-tested : goal.lower_statement-returns-in-For-clause-tested
unfolding loop_count
lower_statement-returns-in-For-clause-tested t c =
    let is = statement_of-For c.args.statement.now c.in-For.line c.in-For.first c.in-For.test c.in-For.step c.in-For.body c.in-For.is in
    rw is (rw c.deref-in-For.ensures at c.lower_for.ensures.tested)
