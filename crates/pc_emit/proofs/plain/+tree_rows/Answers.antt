use Rattle.std.proofs.Common.{rules, ◌≡◌, ◌+◌, length}
use Rattle.pc_word.specs.Row.{Either, At_leaf}
use Rattle.pc_table.specs.Table.{table_tree, Does, Asks}
use Rattle.pc_table.specs.TableKeeps.{units}
use Rattle.pc_machine.specs.MachineCode.{row_of}
use Rattle.pc_emit.proofs.Results.{on_ok_all}
use Rattle.pc_emit.proofs.Plains.{item_tree, test_tree, bare_tree, bare_units}
use Rattle.pc_emit.proofs.plain.+tree_rows.Goals as goal

pub returns-in_ok-push_row-in-Step-clause-made : goal.returns-in_ok-push_row-in-Step-clause-made
returns-in_ok-push_row-in-Step-clause-made t c =
    let tree = table_tree c.args.tree.now in
    let row = length c.args.output.now.rows in
    let pushed = c.in_ok-push_row-in-Step.ensures in
    let is : tree ≡ Does c.in-Step.origin c.in-Step.item (table_tree c.deref-next.result.now) = search rules in
    let made = c.in_ok-with_item-in-Step.ensures in
    on_ok_all c.tree_rows.result
    (λ grows rest. item_tree c.args.plan.now tree row c.push_row.new.self c.tree_rows.new.output c.in-Step.origin (length c.push_row.new.self.rows) _ c.in-Step.item
    (table_tree c.deref-next.result.now) (row_of c.in_ok-with_item-in-Step.field-0) c.leaf_behind-leaf.result
    is pushed.stands made c.leaf_behind-leaf.ensures (search rules) grows rest pushed.count)
    c.tree_rows.ensures.grows c.tree_rows.ensures.made

pub returns-in_ok-tree_rows-in-Test-clause-made : goal.returns-in_ok-tree_rows-in-Test-clause-made
returns-in_ok-tree_rows-in-Test-clause-made t c =
    let tree = table_tree c.args.tree.now in
    let row = length c.args.output.now.rows in
    let pushed = c.in_ok-push_row-in-Test.ensures in
    let first = c.in_ok-tree_rows-in-Test.ensures in
    let on_yes = table_tree c.deref-yes.result.now in
    let on_no = table_tree c.deref-no.result.now in
    let is : tree ≡ Asks c.in-Test.origin c.in-Test.on on_yes on_no = search rules in
    let made : row_of c.in_ok-with_test-in-Test.field-0 ≡ Either c.in-Test.on (At_leaf c.leaf_behind-yes_leaf.result) (At_leaf c.leaf_behind-no_leaf.result) =
    search rules in
    let yes_count : length c.tree_rows-in-Test.new.output.rows ≡ row + 1 + units on_yes = search rules in
    on_ok_all c.tree_rows-in-Test-2.result
    (λ grows rest. test_tree c.args.plan.now tree row c.push_row-in-Test.new.self c.tree_rows-in-Test.new.output c.tree_rows-in-Test-2.new.output c.in-Test.origin
    (length c.push_row-in-Test.new.self.rows) (length c.tree_rows-in-Test.new.output.rows) _ _ c.in-Test.on on_yes on_no (row_of c.in_ok-with_test-in-Test.field-0)
    c.leaf_behind-yes_leaf.result c.leaf_behind-no_leaf.result is pushed.stands made c.leaf_behind-yes_leaf.ensures (search rules)
    c.leaf_behind-no_leaf.ensures (search rules) first.grows first.made pushed.count grows rest yes_count)
    c.tree_rows-in-Test-2.ensures.grows c.tree_rows-in-Test-2.ensures.made

pub returns-in-Next-clause-made : goal.returns-in-Next-clause-made
returns-in-Next-clause-made t c = bare_tree c.args.plan.now c.args.output.now _ (table_tree c.args.tree.now) (bare_units c.args.tree.now c.in-Next.is)

pub returns-in-Next-2-clause-made : goal.returns-in-Next-2-clause-made
returns-in-Next-2-clause-made t c = bare_tree c.args.plan.now c.args.output.now _ (table_tree c.args.tree.now) (bare_units c.args.tree.now c.in-Next.is)

pub returns-in-Next-3-clause-made : goal.returns-in-Next-3-clause-made
returns-in-Next-3-clause-made t c = bare_tree c.args.plan.now c.args.output.now _ (table_tree c.args.tree.now) (bare_units c.args.tree.now c.in-Next.is)
