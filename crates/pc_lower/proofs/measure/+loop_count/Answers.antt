use Rattle.std.proofs.Common.{ap, ◌∙◌, ◌+◌, min, ℕ, ◌<◌, length, refl, sym}
use Rattle.pc_syntax.proofs.ErasureLaws.{statement_of-For}
use Rattle.pc_syntax.specs.Erasure.{list_of, optional_of, statement_of}
use Rattle.pc_lower.specs.SourceLoops.{loop_count, branch_loops, list_loops}
use Rattle.pc_lower.proofs.Measures.{capped_count, loops-more}
use Rattle.pc_lower.proofs.measure.+loop_count.Goals as goal

-- the loops of a `for` are those of its parts and itself
pub loop_count-returns-in-For : goal.loop_count-returns-in-For
unfolding loop_count
loop_count-returns-in-For t c =
    let first = list_loops (list_of c.in-For.first) in
    let step = branch_loops (optional_of c.in-For.step) in
    let body = loop_count (statement_of c.in-For.body.value) in
    let is = ap loop_count (statement_of-For c.args.statement.now c.in-For.line c.in-For.first c.in-For.test c.in-For.step c.in-For.body c.in-For.is) in
    let told = rw c.deref-in-For.ensures at c.loop_count-in-For.ensures in
    let turn = capped_count step body _ _ _ c.branch_loops-in-For.ensures told c.saturating_add-turn.ensures in
    let parts = capped_count first (step + body) _ _ _ c.list_loops-in-For.ensures turn c.saturating_add-in-For.ensures in
    let whole = capped_count (first + (step + body)) 1 _ _ _ parts refl c.saturating_add-in-For-2.ensures in
    whole ∙ ap (λ (n : ℕ). min n 65535) (sym is)

-- one more statement adds its loops
pub list_loops-loop-item-preserved : goal.list_loops-loop-item-preserved
list_loops-loop-item-preserved t c =
    let same = c.as_slice-item-items.ensures in
    let below : c.loop-item.item-index < length c.args.items.now = rw same at c.loop-item-test.true in
    let read = rw same at c.item-item.is in
    let more = loops-more c.args.items.now c.loop-item.item-index c.item-item.result below read in
    capped_count _ _ _ _ _ c.loop-item.invariant c.loop_count.ensures c.saturating_add-total.ensures
    ∙ ap (λ (n : ℕ). min n 65535) (sym more)
