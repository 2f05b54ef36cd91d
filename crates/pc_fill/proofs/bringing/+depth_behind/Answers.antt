use Rattle.std.proofs.Common.{◌≡◌, ◌-◌, ◌≤◌, ◌<◌, sym, subst}
use Rattle.pc_window.specs.Tree.{tree_size}
use Rattle.pc_window.specs.declared.tree.WindowTree.{WindowTree}
use Rattle.pc_window.specs.StoredWindow.{tree_in, front_in}
use Rattle.pc_fill.specs.models.Way.{depth_behind}
use Rattle.pc_fill.proofs.WayTo.{behind_yes, behind_no}
use Rattle.pc_fill.proofs.bringing.+depth_behind.Goals as goal

pub returns-then-place-on_yes : goal.returns-then-place-on_yes
returns-then-place-on_yes t c =
    let place = c.args.place in let n = c.size_up_to-on_yes.result in let d = c.depth_behind-then-place-on_yes.result in
    subst (λ (it : WindowTree). d ≡ depth_behind (front_in it) place) (sym c.in-Test.is)
    (behind_yes c.in-Test.tag c.in-Test.origin place c.if-place-eq0-2.false d c.in-Test.on c.in-Test.yes.value c.in-Test.no.value n
    (subst (λ (it : WindowTree). n ≤ tree_size (tree_in it)) c.deref-in-Test.ensures c.size_up_to-on_yes.ensures.within) c.if-place-on_yes.true
    (subst (λ (it : WindowTree). d ≡ depth_behind (front_in it) (place - 1)) c.deref-then-place-on_yes.ensures c.depth_behind-then-place-on_yes.ensures))

pub returns-else-place-on_yes : goal.returns-else-place-on_yes
returns-else-place-on_yes t c =
    let place = c.args.place in let n = c.size_up_to-on_yes.result in let d = c.depth_behind-in-Test.result in
    subst (λ (it : WindowTree). d ≡ depth_behind (front_in it) place) (sym c.in-Test.is)
    (behind_no c.in-Test.tag c.in-Test.origin place c.if-place-eq0-2.false d c.in-Test.on c.in-Test.yes.value c.in-Test.no.value n
    (subst (λ (it : WindowTree). n < place → n ≡ tree_size (tree_in it)) c.deref-in-Test.ensures c.size_up_to-on_yes.ensures.exact) c.if-place-on_yes.false
    (subst (λ (it : WindowTree). d ≡ depth_behind (front_in it) (place - 1 - n)) c.deref-in-Test-2.ensures c.depth_behind-in-Test.ensures))
