-- What an object that loads has: rows with few items and tests, which lead to rows that are there.
use Rattle.std.proofs.Common.{◌≡◌, ℕ, suc, List, length, length-append, refl, subst, arith}
use Rattle.std.proofs.lemmas.List.{length-map}
use Rattle.std.proofs.lemmas.List.Elements.{All-from_recursion}
use Rattle.std.specs.List.{AllByRecursion}
use Rattle.pc_word.specs.declared.item.Limits.{Limits}
use Rattle.pc_word.specs.Ranges.{AreLimits}
use Rattle.pc_word.specs.Row.{Then, Either, At_leaf, leaves_of, tests_of}
use Rattle.pc_word.proofs.Lists.{all_of_map, all_imply}
use Rattle.pc_word.specs.declared.row_tree.RowTree.{RowTree}
use Rattle.pc_machine.specs.declared.tree.Leaf.{Leaf}
use Rattle.pc_machine.specs.MachineCode.{CodeRow, row_of, rows_of}
use Rattle.pc_machine.specs.WellFormed.{IsLeaf, IsRow}
use Rattle.pc_object.specs.declared.object.Object.{Object}
use Rattle.pc_object.specs.ObjectText.{object_of, IsObject}
use Rattle.pc_view.specs.models.Counted.{HasFew}
use Rattle.pc_view.specs.models.Rows.{CanList}

-- a row has one leaf more than tests
leaves_of-tests : (row : CodeRow) → length (leaves_of row) ≡ suc (length (tests_of row))
leaves_of-tests (Then item rest) = leaves_of-tests rest
leaves_of-tests (Either on on_yes on_no) =
    omega (
      arith,
      length-append (leaves_of on_yes) (leaves_of on_no),
      length-append (tests_of on_yes) (tests_of on_no),
      leaves_of-tests on_yes,
      leaves_of-tests on_no,
    )
leaves_of-tests (At_leaf leaf) = refl

-- a row of a code has few items, tests and leaves
few_of_row : (limits : Limits) (registers arrays rows : ℕ) (row : CodeRow) → AreLimits limits → IsRow limits registers arrays rows row → HasFew row
few_of_row limits registers arrays rows row are is = record {
  ops = omega (arith, is.ops, are.ops.1);
  tests = omega (arith, is.tests, are.tests.1);
  mem = omega (arith, is.mem, are.mem.1);
  leaves = omega (arith, is.tests, are.tests.1, leaves_of-tests row);
}

pub can_list : (object : Object) → IsObject (object_of object) → CanList (length object.code.rows) object.code.rows
can_list object h = record {
  few = All-from_recursion (λ tree. HasFew (row_of tree)) trees
      (all_imply (λ tree. Is (row_of tree)) (λ tree. HasFew (row_of tree)) trees
      (λ tree is. few_of_row object.code.limits object.code.registers (length object.code.arrays) (length (rows_of trees)) (row_of tree) h.code.limits is) each);
  leaves = All-from_recursion (λ tree. AllByRecursion (IsLeaf (length trees)) (leaves_of (row_of tree))) trees
      (all_imply (λ tree. Is (row_of tree)) (λ tree. AllByRecursion (IsLeaf (length trees)) (leaves_of (row_of tree))) trees
      (λ tree is. subst (λ rows. AllByRecursion (IsLeaf rows) (leaves_of (row_of tree))) (length-map trees row_of) is.leaves) each);
}
  where
    trees : List (RowTree Leaf)
    trees = object.code.rows

    Is : CodeRow → Type 0
    Is row = IsRow object.code.limits object.code.registers (length object.code.arrays) (length (rows_of trees)) row

    each : AllByRecursion (λ tree. Is (row_of tree)) trees
    each = all_of_map Is row_of trees h.code.rows
