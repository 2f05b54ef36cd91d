use Rattle.std.proofs.Common.{◌<◌, refl, sym, subst, length}
use Rattle.pc_syntax.specs.Unit.{UnitStatement}
use Rattle.pc_syntax.proofs.UnitLaws.{unit_statement_of-For}
use Rattle.pc_calls.specs.Counted.{counted}
use Rattle.pc_inline.specs.models.Sized.{IsSize, seen}
use Rattle.pc_inline.proofs.Sizing.{sized_together, sized_around, counted-more}
use Rattle.pc_inline.proofs.counting.+statement_size.Goals as goal

-- one more statement
pub list_size-loop-item-preserved : goal.list_size-loop-item-preserved
list_size-loop-item-preserved t c =
    let same = c.as_slice-item-items.ensures in
    let below : c.loop-item.item-index < length c.args.items.now = rw same at c.loop-item-test.true in
    let read = rw same at c.item-item.is in
    let known = seen c.args.functions.now c.args.sizes.now in
    let placed = c.placed_size.ensures known _ c.statement_size-size.ensures refl in
    sized_together c.loop-item.total c.placed_size.result c.together-total.result _ _ _ c.loop-item.invariant placed
    c.together-total.ensures.count c.together-total.ensures.nodes c.together-total.ensures.height
    (counted-more known c.args.in_function c.args.items.now c.loop-item.item-index c.item-item.result below read)

-- the parts of a `for`
pub statement_size-returns-in-For : goal.statement_size-returns-in-For
unfolding counted
statement_size-returns-in-For t c =
    let is = unit_statement_of-For c.args.statement.now c.in-For.line c.in-For.first c.in-For.test c.in-For.step c.in-For.body c.in-For.is in
    let known = seen c.args.functions.now c.args.sizes.now in
    let body = rw c.deref-in-For.ensures at c.statement_size-body.ensures in
    let last = sized_together c.optional_size-step.result c.statement_size-body.result c.together-in-For.result _ _ _ c.optional_size-step.ensures body
    c.together-in-For.ensures.count c.together-in-For.ensures.nodes c.together-in-For.ensures.height refl in
    let all = sized_together c.list_size-first.result c.together-in-For.result c.together-in-For-2.result _ _ _ c.list_size-first.ensures last
    c.together-in-For-2.ensures.count c.together-in-For-2.ensures.nodes c.together-in-For-2.ensures.height refl in
    subst (λ (s : UnitStatement). IsSize c.around-in-For.result (counted known c.args.in_function s)) (sym is)
    (sized_around c.extent-in-For.result c.together-in-For-2.result c.around-in-For.result _ _ c.extent-in-For.ensures.nodes c.extent-in-For.ensures.high all
    c.around-in-For.ensures.count c.around-in-For.ensures.nodes c.around-in-For.ensures.height)
