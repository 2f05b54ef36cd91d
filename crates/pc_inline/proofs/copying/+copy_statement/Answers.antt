use Rattle.std.proofs.Common.{◌<◌, ◌∙◌, sym, ap, length, get_or, arith}
use Rattle.pc_syntax.specs.declared.statement.Stmt.{Stmt}
use Rattle.pc_syntax.specs.declared.unit.Function.{Function}
use Rattle.pc_syntax.specs.Erasure.{expression_of}
use Rattle.pc_syntax.specs.UnitErasure.{unit_statement_of, unit_list_of}
use Rattle.std.specs.Prelude.{map}
use Rattle.pc_syntax.proofs.UnitLaws.{unit_statement_of-Block, unit_statement_of-If, unit_statement_of-While, unit_statement_of-Do, unit_statement_of-For}
use Rattle.pc_syntax.proofs.UnitLaws.{unit_optional_of-Some, unit_statement_of-made_Empty, unit_statement_of-made_Block, unit_list_of-empty}
use Rattle.pc_inline.specs.models.Sites.{next_offset, site_in}
use Rattle.pc_inline.specs.models.Weights.{weight, weight_of_list}
use Rattle.pc_inline.proofs.Rows.{last_first}
use Rattle.pc_inline.proofs.Lists.{put_after}
use Rattle.pc_inline.proofs.Finds.{found-at}
use Rattle.std.proofs.lemmas.List.{get_or_default}
use Rattle.pc_inline.proofs.Copied.{copied_as, put_first, inlined-more, copies-unfound, lighter_function, lighter_item, some_weight, lighter_Block, lighter_If}
use Rattle.pc_inline.proofs.Copied.{lighter_While, lighter_Do, lighter_For, lighter_With}
use Rattle.pc_inline.proofs.Copied.{for_copied, block_missing, block_copied}
use Rattle.pc_inline.proofs.copying.+copy_statement.Goals as goal

-- ---- each step has less before it

pub copy_statement-copy_items-requires : goal.copy_statement-copy_items-requires
copy_statement-copy_items-requires t c =
    let less = lighter_Block _ _ (unit_statement_of-Block c.args.from.now c.in-Block.items c.in-Block.is) in (omega (arith, c.decreases, less), tt)

pub copy_statement-copy_held-requires : goal.copy_statement-copy_held-requires
copy_statement-copy_held-requires t c =
    let less = (lighter_If _ _ _ _ _ (unit_statement_of-If c.args.from.now c.in-If.line c.in-If.test c.in-If.yes c.in-If.no c.in-If.is)).1 in (omega (arith, c.decreases, less), tt)

pub copy_statement-copy_if-requires : goal.copy_statement-copy_if-requires
copy_statement-copy_if-requires t c =
    let less = (lighter_If _ _ _ _ _ (unit_statement_of-If c.args.from.now c.in-If.line c.in-If.test c.in-If.yes c.in-If.no c.in-If.is)).0 in
    let same = ap (λ (s : Stmt). weight (unit_statement_of s)) c.deref.ensures in (omega (arith, c.decreases, less, same), tt)

pub copy_statement-copy_while-requires : goal.copy_statement-copy_while-requires
copy_statement-copy_while-requires t c =
    let less = lighter_While _ _ _ _ (unit_statement_of-While c.args.from.now c.in-While.line c.in-While.test c.in-While.body c.in-While.is) in
    let same = ap (λ (s : Stmt). weight (unit_statement_of s)) c.deref-in-While.ensures in (omega (arith, c.decreases, less, same), tt)

pub copy_statement-copy_do-requires : goal.copy_statement-copy_do-requires
copy_statement-copy_do-requires t c =
    let less = lighter_Do _ _ _ _ (unit_statement_of-Do c.args.from.now c.in-Do.line c.in-Do.body c.in-Do.test c.in-Do.is) in
    let same = ap (λ (s : Stmt). weight (unit_statement_of s)) c.deref-in-Do.ensures in (omega (arith, c.decreases, less, same), tt)

pub copy_statement-copy_items-requires-in-For : goal.copy_statement-copy_items-requires-in-For
copy_statement-copy_items-requires-in-For t c =
    let less = (lighter_For _ _ _ _ _ _ (unit_statement_of-For c.args.from.now c.in-For.line c.in-For.first c.in-For.test c.in-For.step c.in-For.body c.in-For.is)).0 in
    (omega (arith, c.decreases, less), tt)

pub copy_statement-copy_held-requires-in-For : goal.copy_statement-copy_held-requires-in-For
copy_statement-copy_held-requires-in-For t c =
    let less = (lighter_For _ _ _ _ _ _ (unit_statement_of-For c.args.from.now c.in-For.line c.in-For.first c.in-For.test c.in-For.step c.in-For.body c.in-For.is)).1 in
    (omega (arith, c.decreases, less), tt)

pub copy_statement-copy_for-requires : goal.copy_statement-copy_for-requires
copy_statement-copy_for-requires t c =
    let less = (lighter_For _ _ _ _ _ _ (unit_statement_of-For c.args.from.now c.in-For.line c.in-For.first c.in-For.test c.in-For.step c.in-For.body c.in-For.is)).2 in
    let same = ap (λ (s : Stmt). weight (unit_statement_of s)) c.deref-in-For.ensures in (omega (arith, c.decreases, less, same), tt)

pub copy_held-copy_statement-requires : goal.copy_held-copy_statement-requires
copy_held-copy_statement-requires t c =
    let less = lighter_With _ _ (unit_optional_of-Some c.args.from.now c.in-Some.from c.in-Some.is) in
    let same = ap (λ (s : Stmt). weight (unit_statement_of s)) c.deref.ensures in (omega (arith, c.decreases, less, same), tt)

pub copy_declaring-copy_block-requires : goal.copy_declaring-copy_block-requires
copy_declaring-copy_block-requires t c = let some = some_weight (unit_statement_of c.args.from.now) in (omega (arith, c.decreases, some), tt)

pub copy_items-copy_into-requires : goal.copy_items-copy_into-requires
copy_items-copy_into-requires t c =
    let same = c.as_slice-item-items.ensures in
    let below : c.loop-item.item-index < length c.args.items.now = rw same at c.loop-item-test.true in
    let read = rw same at c.item-item.is in
    let less = lighter_item c.args.items.now c.loop-item.item-index c.item-item.result below read in (omega (arith, c.decreases, less), tt)

pub copy_block-copy_items-requires : goal.copy_block-copy_items-requires
copy_block-copy_items-requires t c =
    let less = lighter_function c.args.site.functions.now c.args.function c.in-Some.place c.index-site-place.result (sym c.find.ensures.at ∙ c.in-Some.is) in
    let same = ap (λ (f : Function). weight_of_list (unit_list_of f.items)) c.index-site-place.is in (omega (arith, c.decreases, less, same), tt)

-- ---- what is made

-- one more statement
pub copy_items-loop-item-preserved : goal.copy_items-loop-item-preserved
copy_items-loop-item-preserved t c =
    let same = c.as_slice-item-items.ensures in
    let below : c.loop-item.item-index < length c.args.items.now = rw same at c.loop-item-test.true in
    let read = rw same at c.item-item.is in
    put_after _ _ _ _ _ _ c.loop-item.invariant c.in_ok-copy_into.ensures (inlined-more (site_in c.args.site) c.args.items.now c.loop-item.item-index c.item-item.result below read)

-- a `for`
pub copy_statement-returns-in_ok-step-in-For : goal.copy_statement-returns-in_ok-step-in-For
copy_statement-returns-in_ok-step-in-For t c =
    let was = unit_statement_of-For c.args.from.now c.in-For.line c.in-For.first c.in-For.test c.in-For.step c.in-For.body c.in-For.is in
    copied_as c.copy_for.result _ _ c.copy_for.ensures
    (for_copied (site_in c.args.site) (unit_statement_of c.args.from.now) _ _ _ _ _ was _ _ _
    (put_first c.new-copies-in-For.result _ _ c.new-copies-in-For.ensures c.in_ok-copy_items-in-For.ensures) c.in_ok-step-in-For.ensures (ap unit_statement_of c.deref-in-For.ensures))

-- a call of no function, and of one
pub copy_block-returns-in-None : goal.copy_block-returns-in-None
copy_block-returns-in-None t c =
    unit_statement_of-made_Empty ∙ block_missing (site_in c.args.site) c.args.line c.args.target _ (map expression_of c.args.args.now)
    (copies-unfound (next_offset c.args.site.offset) (last_first c.args.site.functions.now) c.args.function (sym c.find.ensures.at ∙ c.in-None.is))

pub copy_block-returns : goal.copy_block-returns
copy_block-returns t c =
    let functions = c.args.site.functions.now in
    let f = get_or functions c.in-Some.place c.index-site-place.result in
    let at = sym c.find.ensures.at ∙ c.in-Some.is in
    let within = (found-at functions c.args.function c.in-Some.place c.index-site-place.result at).within in
    unit_statement_of-made_Block c.copy_result.new.into
    ∙ block_copied functions c.args.site.offset c.shift.result c.args.site.in_function c.args.line c.args.target c.args.function c.in-Some.place f
    c.args.args.now c.new-items.result c.copy_parameters.new.into c.copy_items.new.into c.copy_result.new.into at
    (get_or_default functions c.in-Some.place c.index-site-place.result f within) c.shift.ensures
    (ap unit_list_of c.new-items.ensures ∙ unit_list_of-empty) (rw c.as_slice.ensures at c.in_ok-copy_parameters.ensures) c.in_ok-copy_items.ensures c.in_ok-copy_result.ensures
