use Rattle.std.proofs.Common.{◌≡◌, ◌↔◌, ◌-◌, ◌≤◌, ◌<◌, true, sym, subst}
use Rattle.pc_window.specs.Tree.{tree_size}
use Rattle.pc_window.specs.declared.tree.WindowTree.{WindowTree}
use Rattle.pc_window.specs.StoredWindow.{tree_in, front_in, forms_in}
use Rattle.pc_fill.specs.models.Places.{MayComeFrom}
use Rattle.pc_fill.proofs.Ways.{front_yes_passed, front_no_passed}
use Rattle.pc_fill.proofs.readiness.+may_come.Goals as goal

pub returns-then-place-on_yes : goal.returns-then-place-on_yes
returns-then-place-on_yes t c =
    let forms = forms_in c.args.names.now.forms in let what = c.args.what in let place = c.args.place in
    let n = c.size_up_to-on_yes.result in let result = c.may_come-then-place-on_yes.result in
    subst (λ (it : WindowTree). (result ≡ true) ↔ MayComeFrom forms what (front_in it) place) (sym c.in-Test.is)
    (front_yes_passed forms what c.in-Test.tag c.in-Test.origin place c.in-Test.on c.in-Test.yes.value c.in-Test.no.value result n c.if-place-eq0-2.false
    (subst (λ (it : WindowTree). n ≤ tree_size (tree_in it)) c.deref-in-Test.ensures c.size_up_to-on_yes.ensures.within) c.if-place-on_yes.true
    (subst (λ (it : WindowTree). (result ≡ true) ↔ MayComeFrom forms what (front_in it) (place - 1)) c.deref-then-place-on_yes.ensures c.may_come-then-place-on_yes.ensures))

pub returns-else-place-on_yes : goal.returns-else-place-on_yes
returns-else-place-on_yes t c =
    let forms = forms_in c.args.names.now.forms in let what = c.args.what in let place = c.args.place in
    let n = c.size_up_to-on_yes.result in let result = c.may_come-in-Test.result in
    subst (λ (it : WindowTree). (result ≡ true) ↔ MayComeFrom forms what (front_in it) place) (sym c.in-Test.is)
    (front_no_passed forms what c.in-Test.tag c.in-Test.origin place c.in-Test.on c.in-Test.yes.value c.in-Test.no.value result n c.if-place-eq0-2.false
    (subst (λ (it : WindowTree). n < place → n ≡ tree_size (tree_in it)) c.deref-in-Test.ensures c.size_up_to-on_yes.ensures.exact) c.if-place-on_yes.false
    (subst (λ (it : WindowTree). (result ≡ true) ↔ MayComeFrom forms what (front_in it) (place - 1 - n)) c.deref-in-Test-2.ensures c.may_come-in-Test.ensures))
