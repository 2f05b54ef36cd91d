use Rattle.std.proofs.Common.{◌≡◌, ◌+◌, ◌<◌, ◌≤◌, length, Some, sym, ◌∙◌, ap, arith}
use Rattle.pc_syntax.specs.declared.statement.Stmt.{Stmt}
use Rattle.pc_syntax.specs.Source.{SourceStatement}
use Rattle.pc_syntax.specs.Erasure.{expression_of, statement_of, optional_of, list_of}
use Rattle.pc_syntax.proofs.ErasureLaws.{statement_of-For}
use Rattle.pc_lower.specs.SourceLoops.{source_loops, with_loops, loop_count}
use Rattle.pc_lower.proofs.Weights.{statement_weight}
use Rattle.pc_lower.proofs.LoopMarks.{marked_for, marked_more, marked_room, marked_lighter, marked_all}
use Rattle.pc_lower.proofs.marks.+mark_statement.Goals as goal

-- ---- `for`

pub mark_statement-mark_list-requires-in-For : goal.mark_statement-mark_list-requires-in-For
unfolding loop_count
mark_statement-mark_list-requires-in-For t c =
    let is = statement_of-For c.args.statement.now c.in-For.line c.in-For.first c.in-For.test c.in-For.step c.in-For.body c.in-For.is in
    let whole = ap statement_weight is in
    let loops = ap loop_count is in
    let one = c.in_ok-own-in-For.ensures.counted in
    let room = c.requires.room in
    (omega (arith, c.decreases, whole), omega (arith, room, loops, one))

pub mark_statement-mark_optional-requires-in-For : goal.mark_statement-mark_optional-requires-in-For
unfolding loop_count
mark_statement-mark_optional-requires-in-For t c =
    let is = statement_of-For c.args.statement.now c.in-For.line c.in-For.first c.in-For.test c.in-For.step c.in-For.body c.in-For.is in
    let whole = ap statement_weight is in
    let loops = ap loop_count is in
    let one = c.in_ok-own-in-For.ensures.counted in
    let two = c.in_ok-mark_list-in-For.ensures.counted in
    let room = c.requires.room in
    (omega (arith, c.decreases, whole), omega (arith, room, loops, one, two))

pub mark_statement-mark_statement-requires-in-For : goal.mark_statement-mark_statement-requires-in-For
unfolding loop_count
mark_statement-mark_statement-requires-in-For t c =
    let is = statement_of-For c.args.statement.now c.in-For.line c.in-For.first c.in-For.test c.in-For.step c.in-For.body c.in-For.is in
    let whole = ap statement_weight is in
    let loops = ap loop_count is in
    let one = c.in_ok-own-in-For.ensures.counted in
    let two = c.in_ok-mark_list-in-For.ensures.counted in
    let three = c.in_ok-mark_optional-in-For.ensures.counted in
    let weight = ap (λ (x : Stmt). statement_weight (statement_of x)) c.deref-in-For.ensures in
    let count = ap (λ (x : Stmt). loop_count (statement_of x)) c.deref-in-For.ensures in
    let room = c.requires.room in
    (omega (arith, c.decreases, whole, weight), omega (arith, room, loops, one, two, three, count))

pub mark_statement-returns-in_ok-mark_optional-in-For-clause-marked : goal.mark_statement-returns-in_ok-mark_optional-in-For-clause-marked
mark_statement-returns-in_ok-mark_optional-in-For-clause-marked t c =
    let is = statement_of-For c.args.statement.now c.in-For.line c.in-For.first c.in-For.test c.in-For.step c.in-For.body c.in-For.is in
    let own = c.in_ok-own-in-For.own in
    let whole = ap (λ (s : SourceStatement). with_loops s c.args.outer (source_loops c.args.marks.now)) is in
    let parts = marked_for _ _ _ _ c.in-For.line (list_of c.in-For.first) (expression_of c.in-For.test) (optional_of c.in-For.step) (statement_of c.in-For.body.value)
    c.args.outer own c.in_ok-own-in-For.ensures.number c.in_ok-own-in-For.ensures.marked c.in_ok-mark_list-in-For.ensures.marked
    c.in_ok-mark_optional-in-For.ensures.marked in
    let same = ap (λ (x : Stmt). with_loops (statement_of x) (Some own) (source_loops c.mark_optional-in-For.new.marks)) (sym c.deref-in-For.ensures) in
    rw (whole ∙ parts ∙ same) c.mark_statement-in-For.ensures.marked

pub mark_statement-returns-in_ok-mark_optional-in-For-clause-counted : goal.mark_statement-returns-in_ok-mark_optional-in-For-clause-counted
unfolding loop_count
mark_statement-returns-in_ok-mark_optional-in-For-clause-counted t c =
    let is = statement_of-For c.args.statement.now c.in-For.line c.in-For.first c.in-For.test c.in-For.step c.in-For.body c.in-For.is in
    let loops = ap loop_count is in
    let one = c.in_ok-own-in-For.ensures.counted in
    let two = c.in_ok-mark_list-in-For.ensures.counted in
    let three = c.in_ok-mark_optional-in-For.ensures.counted in
    let count = ap (λ (x : Stmt). loop_count (statement_of x)) c.deref-in-For.ensures in
    let e : length c.args.marks.now + loop_count (statement_of c.args.statement.now)
    ≡ length c.mark_optional-in-For.new.marks + loop_count (statement_of c.deref-in-For.result.now) = omega (arith, loops, one, two, three, count) in
    rw e c.mark_statement-in-For.ensures.counted

-- ---- statements in order

pub mark_list-loop-item-preserved : goal.mark_list-loop-item-preserved
mark_list-loop-item-preserved t c =
    let same = c.as_slice-item-items.ensures in
    let below : c.loop-item.item-index < length c.args.items.now = rw same at c.loop-item-test.true in
    let read = rw same at c.item-item.is in
    marked_more c.item-item.result c.loop-item.invariant below read c.in_ok-mark_statement.ensures.marked c.in_ok-mark_statement.ensures.counted

pub mark_list-mark_statement-requires : goal.mark_list-mark_statement-requires
mark_list-mark_statement-requires t c =
    let same = c.as_slice-item-items.ensures in
    let below : c.loop-item.item-index < length c.args.items.now = rw same at c.loop-item-test.true in
    let read = rw same at c.item-item.is in
    let lighter = marked_lighter c.item-item.result c.loop-item.invariant below read in
    (omega (arith, c.decreases, lighter), marked_room c.item-item.result c.loop-item.invariant below read 65535 c.requires.room)

pub mark_list-returns-clause-marked : goal.mark_list-returns-clause-marked
mark_list-returns-clause-marked t c =
    let past : length c.args.items.now ≤ c.loop-item.item-index = rw c.as_slice-item-items.ensures at c.loop-item-test.false in
    (marked_all c.loop-item.invariant past).0

pub mark_list-returns-clause-counted : goal.mark_list-returns-clause-counted
mark_list-returns-clause-counted t c =
    let past : length c.args.items.now ≤ c.loop-item.item-index = rw c.as_slice-item-items.ensures at c.loop-item-test.false in
    (marked_all c.loop-item.invariant past).1
