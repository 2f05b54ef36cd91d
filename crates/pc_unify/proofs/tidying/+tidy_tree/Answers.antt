use Rattle.std.proofs.Common.{rules, ◌≡◌, suc, ◌+◌, length, sym, ap, subst, arith}
use Rattle.pc_window.specs.declared.tree.WindowTree.{WindowTree}
use Rattle.pc_window.specs.Opening.{TreeBelow}
use Rattle.pc_window.specs.Tree.{Tree, Undecided}
use Rattle.pc_window.specs.Names.{uses}
use Rattle.pc_window.specs.Tidying.{tidied}
use Rattle.pc_window.specs.StoredWindow.{tree_in}
use Rattle.pc_unify.specs.models.Marks.{is_marked, Marks, WritesNone, SidesApart, stored_size}
use Rattle.pc_unify.proofs.Tidied.{side_unmarked, tree_below}
use Rattle.pc_unify.proofs.tidying.+tidy_tree.Goals as goal

pub tidy_tree-requires-in-Test-2 : goal.tidy_tree-requires-in-Test-2
tidy_tree-requires-in-Test-2 t c =
    let one = tree_in c.in-Test.yes.value in
    let other = tree_in c.in-Test.no.value in
    let is : tree_in c.args.tree.now ≡ Undecided c.in-Test.tag c.in-Test.origin c.in-Test.on one other = ap tree_in c.in-Test.is in
    let lent : c.deref_mut-in-Test-2.result.now ≡ c.in-Test.no.value = search rules in
    let marked : Marks c.args.marks.now c.tidy_tree-in-Test.new.marks (uses (tidied one)) = search rules in
    let below = subst (λ (t : Tree). TreeBelow (length c.args.marks.now) t) is c.requires.below in
    let new = subst (λ (t : Tree). WritesNone (is_marked c.args.marks.now) t) is c.requires.unmarked in
    let apart = subst (λ (t : Tree). SidesApart t) is c.requires.apart in
    let whole : stored_size c.args.tree.now ≡ suc (stored_size c.in-Test.yes.value + stored_size c.in-Test.no.value) = ap stored_size c.in-Test.is in
    let part : stored_size c.deref_mut-in-Test-2.result.now ≡ stored_size c.in-Test.no.value = ap stored_size lent in (
      omega (arith, c.decreases),
      (
        subst (λ (w : WindowTree). TreeBelow (length c.tidy_tree-in-Test.new.marks) (tree_in w)) (sym lent)
            (tree_below c.args.marks.now c.tidy_tree-in-Test.new.marks (uses (tidied one)) other marked below.2),
        (
          subst (λ (w : WindowTree). WritesNone (is_marked c.tidy_tree-in-Test.new.marks) (tree_in w)) (sym lent)
              (side_unmarked c.args.marks.now c.tidy_tree-in-Test.new.marks one other marked new.1 apart.0),
          subst (λ (w : WindowTree). SidesApart (tree_in w)) (sym lent) apart.2,
        ),
      ),
    )
