use Rattle.std.proofs.Common.{◌≡◌, ℕ, ◌+◌, ◌<◌, List, [], ◌∷◌, ◌++◌, length, take, get_or}
use Rattle.std.proofs.lemmas.List.{take_more}
use Rattle.pc_syntax.specs.declared.statement.Stmt.{Stmt}
use Rattle.pc_syntax.specs.UnitErasure.{unit_list_of, unit_statement_of}
use Rattle.pc_syntax.proofs.UnitLaws.{unit_statement_of-For, unit_list_of-push}
use Rattle.pc_syntax.proofs.Copies.{copied_as}
use Rattle.pc_syntax.proofs.statement.+copy_statement.Goals as goal

-- one more copy stands for one more statement
one_more : (from copies longer : List Stmt) (i : ℕ) (item copy : Stmt) → i < length from → item ≡ get_or from i item →
    unit_statement_of copy ≡ unit_statement_of item → unit_list_of copies ≡ unit_list_of (take i from) → longer ≡ copies ++ copy ∷ [] →
    unit_list_of longer ≡ unit_list_of (take (i + 1) from)
one_more from copies longer i item copy below read copied so_far pushed =
    let one = take_more from i item below in
    let front = unit_list_of-push (take i from) (get_or from i item) in
    let made = unit_list_of-push copies copy in
    cc

pub copy_list-loop-item-preserved : goal.copy_list-loop-item-preserved
copy_list-loop-item-preserved t c =
    let same = c.as_slice-item-items.ensures in
    let below : c.loop-item.item-index < length c.args.from.now = rw same at c.loop-item-test.true in
    let read = rw same at c.item-item.is in
    one_more c.args.from.now c.loop-item.copies c.push.new.self c.loop-item.item-index c.item-item.result c.in_ok-copy.copy below read
    c.in_ok-copy.ensures c.loop-item.invariant c.in_ok-push.ensures.ok

-- a copied `for` stands for the one that it was copied from
pub copy_statement-returns-in_ok-step-in-For : goal.copy_statement-returns-in_ok-step-in-For
copy_statement-returns-in_ok-step-in-For t c =
    let was = unit_statement_of-For c.args.from.now c.in-For.line c.in-For.first c.in-For.test c.in-For.step c.in-For.body c.in-For.is in
    let first = c.in_ok-first-in-For.ensures in
    let step = c.in_ok-step-in-For.ensures in
    let borrowed = c.deref-in-For.ensures in
    copied_as c.copy_for.result _ _ c.copy_for.ensures (cc)
