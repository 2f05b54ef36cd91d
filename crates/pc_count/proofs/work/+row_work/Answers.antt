use Rattle.std.proofs.Common.{◌≡◌, ◌∙◌, ℕ, List, length, drop, ap, sym, subst, arith}
use Rattle.std.proofs.lemmas.List.{take_rest}
use Rattle.pc_word.specs.Row.{Then, Either, leaves_of}
use Rattle.pc_word.specs.declared.row_tree.RowTree.{RowTree}
use Rattle.pc_machine.specs.declared.tree.Leaf.{Leaf}
use Rattle.pc_machine.specs.MachineCode.{CodeRow, row_of}
use Rattle.pc_count.specs.Work.{both, row_work}
use Rattle.pc_count.specs.declared.work.Work.{Work}
use Rattle.pc_count.specs.models.Bounds.{IsCounted, IsFew}
use Rattle.pc_count.proofs.Works.{both-few, counted-no, counted-rest, counted-yes, row-few, row_size, size-no}
use Rattle.pc_count.proofs.work.+row_work.Goals as goal

-- what stands below an item
pub with_item-requires : goal.with_item-requires
with_item-requires t c =
    let counts = c.args.counts.now in
    let rest = row_of c.in-Step.next.value in
    let is : row_of c.args.row.now ≡ Then c.in-Step.item rest = ap row_of c.in-Step.is in
    let counted = counted-rest c.in-Step.item rest counts (subst (λ (row : CodeRow). IsCounted row counts) is c.requires) in
    let same : c.row_work.result ≡ row_work rest counts = c.row_work.ensures ∙ ap (λ (tree : RowTree Leaf). row_work (row_of tree) counts) c.deref.ensures in
    subst IsFew (sym same) (row-few rest counts counted)

-- the no side of a test, with the counts behind those of the yes side
pub row_work-other-requires : goal.row_work-other-requires
row_work-other-requires t c =
    let counts = c.args.counts.now in
    let one = row_of c.in-Test.yes.value in
    let other = row_of c.in-Test.no.value in
    let is : row_of c.args.row.now ≡ Either c.in-Test.on one other = ap row_of c.in-Test.is in
    let counted = counted-no c.in-Test.on one other counts (subst (λ (row : CodeRow). IsCounted row counts) is c.requires) in
    let many : c.leaf_count-behind.result ≡ length (leaves_of one) = c.leaf_count-behind.ensures ∙ ap (λ (tree : RowTree Leaf). length (leaves_of (row_of tree))) c.deref-in-Test.ensures in
    let part : row_of c.deref-in-Test-3.result.now ≡ other = ap row_of c.deref-in-Test-3.ensures in
    let whole : row_size (row_of c.args.row.now) ≡ row_size (Either c.in-Test.on one other) = ap row_size is in
    let below : row_size (row_of c.deref-in-Test-3.result.now) ≡ row_size other = ap row_size part in
    let left : List ℕ = drop c.leaf_count-behind.result counts in (
      omega (arith, c.decreases, whole, below, size-no c.in-Test.on one other),
      subst (λ (xs : List ℕ). IsCounted (row_of c.deref-in-Test-3.result.now) xs) (sym (take_rest counts c.leaf_count-behind.result))
          (subst (λ (row : CodeRow). IsCounted row left) (sym part)
          (subst (λ (k : ℕ). IsCounted other (drop k counts)) (sym many) counted)),
    )

pub and-requires-clause-one : goal.and-requires-clause-one
and-requires-clause-one t c =
    let counts = c.args.counts.now in
    let one = row_of c.in-Test.yes.value in
    let other = row_of c.in-Test.no.value in
    let is : row_of c.args.row.now ≡ Either c.in-Test.on one other = ap row_of c.in-Test.is in
    let counted = counted-yes c.in-Test.on one other counts (subst (λ (row : CodeRow). IsCounted row counts) is c.requires) in
    let same : c.row_work-one.result ≡ row_work one counts = c.row_work-one.ensures ∙ ap (λ (tree : RowTree Leaf). row_work (row_of tree) counts) c.deref-in-Test-2.ensures in
    subst IsFew (sym same) (row-few one counts counted)

pub and-requires-clause-other : goal.and-requires-clause-other
and-requires-clause-other t c =
    let counts = c.args.counts.now in
    let one = row_of c.in-Test.yes.value in
    let other = row_of c.in-Test.no.value in
    let is : row_of c.args.row.now ≡ Either c.in-Test.on one other = ap row_of c.in-Test.is in
    let counted = counted-no c.in-Test.on one other counts (subst (λ (row : CodeRow). IsCounted row counts) is c.requires) in
    let many : c.leaf_count-behind.result ≡ length (leaves_of one) = c.leaf_count-behind.ensures ∙ ap (λ (tree : RowTree Leaf). length (leaves_of (row_of tree))) c.deref-in-Test.ensures in
    let same : c.row_work-other.result ≡ row_work other (drop (length (leaves_of one)) counts) =
    c.row_work-other.ensures
    ∙ ap (λ (xs : List ℕ). row_work (row_of c.deref-in-Test-3.result.now) xs) (take_rest counts c.leaf_count-behind.result ∙ ap (λ k. drop k counts) many)
    ∙ ap (λ (tree : RowTree Leaf). row_work (row_of tree) (drop (length (leaves_of one)) counts)) c.deref-in-Test-3.ensures in
    subst IsFew (sym same) (row-few other (drop (length (leaves_of one)) counts) counted)

pub with_test-requires : goal.with_test-requires
with_test-requires t c =
    let counts = c.args.counts.now in
    let one = row_of c.in-Test.yes.value in
    let other = row_of c.in-Test.no.value in
    let is : row_of c.args.row.now ≡ Either c.in-Test.on one other = ap row_of c.in-Test.is in
    let counted : IsCounted (Either c.in-Test.on one other) counts = subst (λ (row : CodeRow). IsCounted row counts) is c.requires in
    let many : c.leaf_count-behind.result ≡ length (leaves_of one) = c.leaf_count-behind.ensures ∙ ap (λ (tree : RowTree Leaf). length (leaves_of (row_of tree))) c.deref-in-Test.ensures in
    let first : c.row_work-one.result ≡ row_work one counts = c.row_work-one.ensures ∙ ap (λ (tree : RowTree Leaf). row_work (row_of tree) counts) c.deref-in-Test-2.ensures in
    let second : c.row_work-other.result ≡ row_work other (drop (length (leaves_of one)) counts) =
    c.row_work-other.ensures
    ∙ ap (λ (xs : List ℕ). row_work (row_of c.deref-in-Test-3.result.now) xs) (take_rest counts c.leaf_count-behind.result ∙ ap (λ k. drop k counts) many)
    ∙ ap (λ (tree : RowTree Leaf). row_work (row_of tree) (drop (length (leaves_of one)) counts)) c.deref-in-Test-3.ensures in
    let same : c.and.result ≡ both (row_work one counts) (row_work other (drop (length (leaves_of one)) counts)) =
    c.and.ensures ∙ ap (λ (w : Work). both w c.row_work-other.result) first ∙ ap (λ (w : Work). both (row_work one counts) w) second in
    subst IsFew (sym same) (both-few c.in-Test.on one other counts counted)
