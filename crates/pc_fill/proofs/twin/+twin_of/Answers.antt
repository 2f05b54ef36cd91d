use Rattle.std.proofs.Common.{◌≡◌, ◌+◌, ◌∷◌, ◌∙◌, true, false, Bool, sym, ap, subst, length}
use Rattle.pc_window.specs.Tree.{Tree, Split, whole, tree_size}
use Rattle.pc_window.specs.declared.tree.WindowTree.{WindowTree}
use Rattle.pc_window.specs.StoredWindow.{tree_in, front_in, forms_in}
use Rattle.pc_fill.specs.models.Landing.{FirstFrom, both_unfinished}
use Rattle.pc_window.proofs.WindowsStored.{whole_in}
use Rattle.pc_fill.proofs.Twins.{FirstAlong, known_so, front_yes_side, front_across}
use Rattle.pc_fill.proofs.twin.+twin_of.Goals as goal

pub returns-then-both_unfinished : goal.returns-then-both_unfinished
returns-then-both_unfinished t c =
    let forms = forms_in c.args.names.now.forms in let next = length c.args.names.now.forms in let s = c.args.seeker in
    let p = c.in-Test.yes.value in let q = c.in-Test.no.value in let found = c.find_twin.result in
    let both : both_unfinished (front_in p) (front_in q) ≡ true =
    (λ i. both_unfinished (front_in (sym c.deref-in-Some.ensures i)) (front_in (sym c.deref-in-Some-2.ensures i))) ∙ sym c.both_unfinished.ensures ∙ c.if-both_unfinished.true in
    let first : FirstFrom forms next s.tag s.origin s.item (whole (front_in q)) 0 (0 + tree_size (whole (front_in q))) found =
    subst (λ (it : Tree). FirstFrom forms next s.tag s.origin s.item it 0 (0 + tree_size it) found) (sym (whole_in q))
    (subst (λ (it : WindowTree). FirstFrom forms next s.tag s.origin s.item (tree_in q) 0 (0 + tree_size (tree_in it)) found) c.deref-then-both_unfinished.ensures
    (subst (λ (it : WindowTree). FirstFrom forms next s.tag s.origin s.item (tree_in it) 0 (0 + tree_size (tree_in c.deref-then-both_unfinished.result.now)) found)
    c.deref-then-both_unfinished-2.ensures c.find_twin.ensures)) in
    known_so forms next s.tag s.origin s.item (front_in c.args.tree.now) (Split c.in-Test.tag c.in-Test.origin c.in-Test.on (front_in p) (front_in q)) c.args.way.now (true ∷ c.in-Some.below.now) found
    (ap front_in c.in-Test.is) (c.in-Some.ensures.cases.0 ∙ ap (λ (b : Bool). b ∷ c.in-Some.below.now) c.if-not-side.false)
    (front_across forms next s.tag s.origin s.item c.in-Test.tag c.in-Test.origin c.in-Test.on (front_in p) (front_in q) both c.in-Some.below.now found first)

pub returns-else-both_unfinished : goal.returns-else-both_unfinished
returns-else-both_unfinished t c =
    let forms = forms_in c.args.names.now.forms in let next = length c.args.names.now.forms in let s = c.args.seeker in
    let p = c.in-Test.yes.value in let q = c.in-Test.no.value in let found = c.twin_of-in-Some.result in
    let apart : both_unfinished (front_in p) (front_in q) ≡ false =
    (λ i. both_unfinished (front_in (sym c.deref-in-Some.ensures i)) (front_in (sym c.deref-in-Some-2.ensures i))) ∙ sym c.both_unfinished.ensures ∙ c.if-both_unfinished.false in
    known_so forms next s.tag s.origin s.item (front_in c.args.tree.now) (Split c.in-Test.tag c.in-Test.origin c.in-Test.on (front_in p) (front_in q)) c.args.way.now (true ∷ c.in-Some.below.now) found
    (ap front_in c.in-Test.is) (c.in-Some.ensures.cases.0 ∙ ap (λ (b : Bool). b ∷ c.in-Some.below.now) c.if-not-side.false)
    (front_yes_side forms next s.tag s.origin s.item c.in-Test.tag c.in-Test.origin c.in-Test.on (front_in p) (front_in q) apart c.in-Some.below.now found
    (subst (λ (it : WindowTree). FirstAlong forms next s.tag s.origin s.item (front_in it) c.in-Some.below.now found) c.deref-in-Some-3.ensures c.twin_of-in-Some.ensures))
