use Rattle.std.proofs.Common.{◌≡◌, ◌↔◌, ◌-◌, ◌≤◌, ◌<◌, ◌∙◌, true, false, sym, subst, length}
use Rattle.pc_window.specs.Tree.{tree_size}
use Rattle.pc_window.specs.declared.tree.WindowTree.{WindowTree}
use Rattle.pc_window.specs.StoredWindow.{tree_in, front_in, forms_in}
use Rattle.pc_fill.specs.models.Landing.{TwinHere, TwinIn, both_unfinished}
use Rattle.pc_fill.proofs.TwinPlaces.{on_no, across, on_yes}
use Rattle.pc_fill.proofs.twin.+has_twin_at.Goals as goal

pub returns-then-place-on_yes : goal.returns-then-place-on_yes
returns-then-place-on_yes t c =
    let forms = forms_in c.args.names.now.forms in let next = length c.args.names.now.forms in let s = c.args.seeker in let place = c.args.place in
    let n = c.size_up_to-on_yes.result in let result = c.has_twin_at-then-place-on_yes.result in
    subst (λ (it : WindowTree). (result ≡ true) ↔ TwinIn forms next s.tag s.origin s.item (front_in it) place c.args.twin) (sym c.in-Test.is)
    (on_no forms next s.tag s.origin s.item c.in-Test.tag c.in-Test.origin place c.args.twin c.in-Test.on c.in-Test.yes.value c.in-Test.no.value result n c.if-place-eq0-2.false
    (subst (λ (it : WindowTree). n < place → n ≡ tree_size (tree_in it)) c.deref-in-Test.ensures c.size_up_to-on_yes.ensures.exact) c.if-place-on_yes.true
    (subst (λ (it : WindowTree). (result ≡ true) ↔ TwinIn forms next s.tag s.origin s.item (front_in it) (place - 1 - n) c.args.twin) c.deref-then-place-on_yes.ensures
    c.has_twin_at-then-place-on_yes.ensures))

pub returns-then-both_unfinished : goal.returns-then-both_unfinished
returns-then-both_unfinished t c =
    let forms = forms_in c.args.names.now.forms in let next = length c.args.names.now.forms in let s = c.args.seeker in let place = c.args.place in
    let p = c.in-Test.yes.value in let q = c.in-Test.no.value in
    let n = c.size_up_to-on_yes.result in let result = c.is_twin_here.result in
    let both : both_unfinished (front_in p) (front_in q) ≡ true =
    (λ i. both_unfinished (front_in (sym c.deref-in-Test-2.ensures i)) (front_in (sym c.deref-in-Test-3.ensures i))) ∙ sym c.both_unfinished.ensures ∙ c.if-both_unfinished.true in
    subst (λ (it : WindowTree). (result ≡ true) ↔ TwinIn forms next s.tag s.origin s.item (front_in it) place c.args.twin) (sym c.in-Test.is)
    (across forms next s.tag s.origin s.item c.in-Test.tag c.in-Test.origin place c.args.twin c.in-Test.on p q result n c.if-place-eq0-2.false
    (subst (λ (it : WindowTree). n ≤ tree_size (tree_in it)) c.deref-in-Test.ensures c.size_up_to-on_yes.ensures.within) c.if-place-on_yes.false both
    (subst (λ (it : WindowTree). (result ≡ true) ↔ TwinHere forms next s.tag s.origin s.item (tree_in it) c.args.twin) c.deref-then-both_unfinished.ensures c.is_twin_here.ensures))

pub returns-else-both_unfinished : goal.returns-else-both_unfinished
returns-else-both_unfinished t c =
    let forms = forms_in c.args.names.now.forms in let next = length c.args.names.now.forms in let s = c.args.seeker in let place = c.args.place in
    let p = c.in-Test.yes.value in let q = c.in-Test.no.value in
    let n = c.size_up_to-on_yes.result in let result = c.has_twin_at-in-Test.result in
    let apart : both_unfinished (front_in p) (front_in q) ≡ false =
    (λ i. both_unfinished (front_in (sym c.deref-in-Test-2.ensures i)) (front_in (sym c.deref-in-Test-3.ensures i))) ∙ sym c.both_unfinished.ensures ∙ c.if-both_unfinished.false in
    subst (λ (it : WindowTree). (result ≡ true) ↔ TwinIn forms next s.tag s.origin s.item (front_in it) place c.args.twin) (sym c.in-Test.is)
    (on_yes forms next s.tag s.origin s.item c.in-Test.tag c.in-Test.origin place c.args.twin c.in-Test.on p q result n c.if-place-eq0-2.false
    (subst (λ (it : WindowTree). n ≤ tree_size (tree_in it)) c.deref-in-Test.ensures c.size_up_to-on_yes.ensures.within) c.if-place-on_yes.false apart
    (subst (λ (it : WindowTree). (result ≡ true) ↔ TwinIn forms next s.tag s.origin s.item (front_in it) (place - 1) c.args.twin) c.deref-in-Test-4.ensures c.has_twin_at-in-Test.ensures))
