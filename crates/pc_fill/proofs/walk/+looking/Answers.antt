use Rattle.std.proofs.Common.{◌∙◌, sym, ap}
use Rattle.pc_window.specs.Tree.{Pending}
use Rattle.pc_window.specs.declared.tree.WindowTree.{WindowTree}
use Rattle.pc_window.specs.StoredWindow.{tree_in}
use Rattle.pc_fill.proofs.Landed.{ok_imply}
use Rattle.pc_fill.proofs.Walked.{item_left_out, test_left_out, looked_past, looked_over}
use Rattle.pc_fill.proofs.walk.+looking.Goals as goal

pub look_behind-returns-then-comes_later : goal.look_behind-returns-then-comes_later
look_behind-returns-then-comes_later t c =
    item_left_out c.args.setting.now c.args.path.now c.args.depth (tree_in c.args.tree.now) c.in-Step.tag c.in-Step.origin c.args.search.now c.comes_later.result c.comes_later.ensures
    c.if-comes_later.true c.in-Step.item (tree_in c.in-Step.rest.value) (ap tree_in c.in-Step.is)

pub look_behind-returns-then-comes_later-2 : goal.look_behind-returns-then-comes_later-2
look_behind-returns-then-comes_later-2 t c =
    test_left_out c.args.setting.now c.args.path.now c.args.depth (tree_in c.args.tree.now) c.in-Test.tag c.in-Test.origin c.args.search.now c.comes_later-in-Test.result
    c.comes_later-in-Test.ensures c.if-comes_later-2.true c.in-Test.on (tree_in c.in-Test.yes.value) (tree_in c.in-Test.no.value) (ap tree_in c.in-Test.is)

pub look_behind-returns-in_ok-look_at_item-in-Step : goal.look_behind-returns-in_ok-look_at_item-in-Step
look_behind-returns-in_ok-look_at_item-in-Step t c =
    let is = ap tree_in c.in-Step.is ∙ ap (λ (it : WindowTree). Pending c.in-Step.tag c.in-Step.origin c.in-Step.item (tree_in it)) (sym c.deref.ensures) in
    ok_imply c.look_below_item.result
    (looked_past c.args.setting.now c.args.path.now c.args.depth (tree_in c.args.tree.now) c.in-Step.tag c.in-Step.origin c.in-Step.item (tree_in c.deref.result.now) c.args.search.now
    c.look_at_item.new.search c.look_below_item.new.search is c.in_ok-look_at_item-in-Step.ensures) c.look_below_item.ensures

pub look_behind-returns-then-not-has_item_room : goal.look_behind-returns-then-not-has_item_room
look_behind-returns-then-not-has_item_room t c =
    looked_over c.args.setting.now c.args.path.now c.args.depth (tree_in c.args.tree.now) c.in-Test.tag c.in-Test.origin c.in-Test.on (tree_in c.in-Test.yes.value) (tree_in c.in-Test.no.value)
    (ap tree_in c.in-Test.is) c.args.search.now c.look_at_test.new.search c.in_ok-look_at_test-in-Test.ensures c.has_item_room.result c.has_item_room.ensures c.if-not-has_item_room.true
