use Rattle.std.proofs.Common.{◌≡◌, sym, ap, ◌∙◌, subst, ◌+◌, ◌-◌, length, arith}
use Rattle.std.specs.Prelude.{max}
use Rattle.std.proofs.lemmas.Result.{err_from_is_err_and}
use Rattle.pc_syntax.specs.Unit.{Finish}
use Rattle.pc_syntax.specs.Erasure.{expression_of}
use Rattle.pc_syntax.specs.UnitErasure.{unit_list_of, unit_statement_of}
use Rattle.pc_syntax.proofs.UnitLaws.{unit_list_of-empty}
use Rattle.pc_parser.specs.models.StatementParser.{items_at, statement_below}
use Rattle.pc_parser.proofs.DoLoops.{do-unended}
use Rattle.pc_parser.proofs.Further.{statement-further}
use Rattle.pc_parser.proofs.Lists.{gathered, items-init, items-more, items-ended, items-failed}
use Rattle.pc_parser.proofs.+statement.Goals as goal

-- a `do` without its last `;`
pub loops::do_loop-returns-in_err-expect-clause-gives : goal.loops::do_loop-returns-in_err-expect-clause-gives
loops::do_loop-returns-in_err-expect-clause-gives t c =
    let p = err_from_is_err_and c.from_residual-in_err-expect.result c.from_residual-in_err-expect.ensures.1 in
    let body = c.in_ok-body.body in
    let condition = c.in_ok-condition.condition in
    rw (p.1, p.2) (do-unended c.args.tokens.now c.args.calls c.args.budget c.args.place (unit_statement_of body.tree) body.height body.next
    (expression_of condition.tree) condition.height condition.next _ c.in_ok-within.ensures.order
    c.in_ok-body.ensures.gives c.in_ok-expect_key.ensures.test c.in_ok-condition.ensures.gives c.in_err-expect.ensures.test.0 c.in_err-expect.ensures.test.1)

-- a statement ends after its beginning
pub statement::item-returns-clause-further : goal.statement::item-returns-clause-further
statement::item-returns-clause-further t c =
    let stated = c.in_ok-stated.stated in
    statement-further c.args.tokens.now c.args.calls (c.args.budget - 1) c.args.place (unit_statement_of stated.tree) stated.height stated.next c.in_ok-stated.ensures.gives

-- before the first item
pub statement::items-loop-alloc-init : goal.statement::items-loop-alloc-init
statement::items-loop-alloc-init t c =
    let tokens = c.args.tokens.now in
    let budget = c.args.budget in
    let empty : Finish ≡ unit_list_of c.new-items.result = sym (ap unit_list_of c.new-items.ensures ∙ unit_list_of-empty) in
    record {
      turns = length tokens + 1;
      enough = omega arith;
      same = subst (λ list. items_at tokens c.args.calls (statement_below tokens c.args.calls budget) budget (length tokens + 1) c.args.place
          ≡ gathered list 0 (items_at tokens c.args.calls (statement_below tokens c.args.calls budget) budget (length tokens + 1) c.args.place)) empty
          (items-init tokens c.args.calls budget (statement_below tokens c.args.calls budget) c.args.place);
      low = omega arith;
      inside = c.requires.stands.inside;
    }

-- a failure of an item
pub statement::items-returns-in_err-more-clause-gives : goal.statement::items-returns-in_err-more-clause-gives
statement::items-returns-in_err-more-clause-gives t c =
    let p = err_from_is_err_and c.from_residual.result c.from_residual.ensures.1 in
    let tokens = c.args.tokens.now in
    let so_far = c.loop-alloc.invariant in
    let enough = so_far.enough in
    let inside = so_far.inside in
    rw (p.1, p.2) (items-failed tokens c.args.calls c.args.budget (statement_below tokens c.args.calls c.args.budget) _
    (unit_list_of c.loop-alloc.items) c.loop-alloc.height so_far.turns c.loop-alloc.next _ so_far.same (omega arith)
    (sym c.loop-alloc-test.ensures.value) c.in_err-more.ensures.gives)

-- one more item
pub statement::items-loop-alloc-preserved : goal.statement::items-loop-alloc-preserved
statement::items-loop-alloc-preserved t c =
    let tokens = c.args.tokens.now in
    let so_far = c.loop-alloc.invariant in
    let enough = so_far.enough in
    let inside = so_far.inside in
    let low = so_far.low in
    let more = c.in_ok-more.more in
    let ends = c.in_ok-more.ensures.ends in
    let more_low = ends.low in
    let further = c.in_ok-more.ensures.further in
    let high : c.max-height.result ≡ max c.loop-alloc.height more.height = c.max-height.ensures in
    record {
      turns = so_far.turns - 1;
      enough = omega arith;
      same = items-more tokens c.args.calls c.args.budget (statement_below tokens c.args.calls c.args.budget) _ (unit_list_of c.loop-alloc.items) c.loop-alloc.height so_far.turns c.loop-alloc.next
          (unit_list_of more.tree) more.height more.next c.max-height.result so_far.same (omega arith)
          (sym c.loop-alloc-test.ensures.value) c.in_ok-more.ensures.gives high;
      low = omega arith;
      inside = ends.inside;
    }

-- the `}`
pub statement::items-returns-clause-gives : goal.statement::items-returns-clause-gives
statement::items-returns-clause-gives t c =
    let tokens = c.args.tokens.now in
    let so_far = c.loop-alloc.invariant in
    let enough = so_far.enough in
    let inside = so_far.inside in
    items-ended tokens c.args.calls c.args.budget (statement_below tokens c.args.calls c.args.budget) _ (unit_list_of c.loop-alloc.items) c.loop-alloc.height so_far.turns c.loop-alloc.next so_far.same
    (omega arith) (sym c.loop-alloc-test.ensures.value)
