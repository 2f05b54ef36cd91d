use Rattle.std.proofs.Common.{◌∙◌, refl, sym, ap}
use Rattle.pc_window.specs.Tree.{Pending, Undecided, Issued, Split}
use Rattle.pc_window.specs.declared.tree.WindowTree.{WindowTree}
use Rattle.pc_window.specs.StoredWindow.{tree_in, front_in}
use Rattle.pc_window.proofs.WindowsStored.{whole_in}
use Rattle.pc_fill.proofs.Landed.{ok_imply}
use Rattle.pc_fill.proofs.WalkedFront.{went_past, went_on_sides}
use Rattle.pc_fill.proofs.walk.+look_through.Goals as goal

pub returns-else-is_plain : goal.returns-else-is_plain
returns-else-is_plain t c =
    let rest = c.deref-in-Step.result.now in
    let is = ap tree_in c.in-Step.is ∙ ap (λ (it : WindowTree). Pending c.in-Step.tag c.in-Step.origin c.in-Step.item (tree_in it)) (sym c.deref-in-Step.ensures) in
    let is_front = ap front_in c.in-Step.is ∙ ap (λ (it : WindowTree). Issued c.in-Step.tag c.in-Step.origin c.in-Step.item (front_in it)) (sym c.deref-in-Step.ensures) in
    ok_imply c.look_through-in-Step.result
    (went_past c.args.setting.now c.args.path.now (tree_in c.args.tree.now) (front_in c.args.tree.now) c.in-Step.tag c.in-Step.origin c.in-Step.item (tree_in rest) (front_in rest) is is_front
    c.args.search.now c.look_through-in-Step.new.search _ (λ what. (λ h. h, λ h. h)) refl) c.look_through-in-Step.ensures

pub returns-in_ok-look_through-in-Test : goal.returns-in_ok-look_through-in-Test
returns-in_ok-look_through-in-Test t c =
    let p = c.deref-in-Test.result.now in let q = c.deref-in-Test-2.result.now in
    let is = ap tree_in c.in-Test.is
    ∙ (λ i. Undecided c.in-Test.tag c.in-Test.origin c.in-Test.on (tree_in (sym c.deref-in-Test.ensures i)) (tree_in (sym c.deref-in-Test-2.ensures i))) in
    let is_front = ap front_in c.in-Test.is
    ∙ (λ i. Split c.in-Test.tag c.in-Test.origin c.in-Test.on (front_in (sym c.deref-in-Test.ensures i)) (front_in (sym c.deref-in-Test-2.ensures i))) in
    ok_imply c.look_through-in-Test-2.result
    (went_on_sides c.args.setting.now c.args.path.now (tree_in c.args.tree.now) (front_in c.args.tree.now) c.in-Test.tag c.in-Test.origin c.in-Test.on (tree_in p) (tree_in q) (front_in p) (front_in q)
    is is_front (whole_in p) c.args.search.now c.look_through-in-Test.new.search c.look_through-in-Test-2.new.search _ _
    (λ what. (λ h. (tt, h), λ h. h.1)) refl c.in_ok-look_through-in-Test.ensures (λ what. (λ h. (tt, h), λ h. h.1)) refl) c.look_through-in-Test-2.ensures
