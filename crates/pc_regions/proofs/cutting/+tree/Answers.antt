use Rattle.std.proofs.lemmas.Result.{IfOk-weaker}
use Rattle.pc_table.specs.Table.{table_tree}
use Rattle.pc_regions.proofs.TreesCut.{test_tree, taken_behind, names_one}
use Rattle.pc_regions.proofs.cutting.+tree.Goals as goal

pub tree_at-returns-in_ok-no-in-Test-clause-tree : goal.tree_at-returns-in_ok-no-in-Test-clause-tree
tree_at-returns-in_ok-no-in-Test-clause-tree t c =
    rw (c.in_ok-yes-in-Test.ensures.ok, c.in_ok-no-in-Test.ensures.ok)
    (test_tree c.args.flow.now c.args.marks.now c.tree_behind-in-Test.new.found.order c.tree_behind-in-Test-2.new.found.order c.args.room.now c.args.at c.in-Test.on c.in-Test.yes c.in-Test.no
    c.tree_behind-in-Test.new.room c.tree_behind-in-Test-2.new.room c.in-Test.turn (table_tree c.in_ok-tree_behind-in-Test.field-0) (table_tree c.in_ok-tree_behind-in-Test-2.field-0)
    c.requires.room c.in-Test.ensures c.in_ok-tree_behind-in-Test.ensures.tree c.in_ok-tree_behind-in-Test-2.ensures.names.keeps c.in_ok-tree_behind-in-Test-2.ensures.tree)

pub tree_behind-returns-then-may_be_taken-clause-tree : goal.tree_behind-returns-then-may_be_taken-clause-tree
tree_behind-returns-then-may_be_taken-clause-tree t c =
    IfOk-weaker c.tree_at.result _ _
    (λ tree h. taken_behind c.args.flow.now c.args.marks.now c.tree_at.new.found.order c.args.room.now c.args.to c.tree_at.new.room (table_tree tree) c.if-may_be_taken.ensures.0 h)
    c.tree_at.ensures.tree

pub tree_behind-returns-clause-names : goal.tree_behind-returns-clause-names
tree_behind-returns-clause-names t c = names_one c.args.found.now c.number.new.self c.args.to c.in_ok-region.region c.in_ok-region.ensures.met
