use Rattle.std.proofs.Common.{◌≡◌, ℕ, suc, ◌+◌, ◌∙◌, refl, None, sym, ap, subst, arith, length}
use Rattle.pc_window.specs.Tree.{Tree, Pending, Undecided, tree_size}
use Rattle.pc_window.specs.declared.tree.WindowTree.{WindowTree}
use Rattle.pc_window.specs.StoredWindow.{tree_in, forms_in}
use Rattle.pc_fill.specs.models.Extent.{extent}
use Rattle.pc_fill.specs.models.Search.{StandsAt}
use Rattle.pc_fill.specs.models.Landing.{FirstFrom}
use Rattle.pc_fill.proofs.Searching.{below_item, below_test, behind_yes}
use Rattle.pc_fill.proofs.Twins.{behind_item, on_no}
use Rattle.pc_fill.proofs.twin.+find_twin.Goals as goal

pub find_twin-requires : goal.find_twin-requires
find_twin-requires t c =
    let falls = ap extent c.in-Step.is ∙ ap (λ (it : WindowTree). suc (extent it)) (sym c.deref.ensures) in
    let is : tree_in c.args.tree.now ≡ Pending c.in-Step.tag c.in-Step.origin c.in-Step.item (tree_in c.deref.result.now) =
    ap tree_in c.in-Step.is ∙ ap (λ (it : WindowTree). Pending c.in-Step.tag c.in-Step.origin c.in-Step.item (tree_in it)) (sym c.deref.ensures) in
    let below = below_item (tree_in c.args.tree.now) (tree_in c.deref.result.now) c.in-Step.tag c.in-Step.origin c.in-Step.item c.args.place (c.args.place + 1) (tree_in c.args.all.now) is refl
    c.requires.place c.requires.stands in
    (omega (arith, c.decreases, falls), (c.requires.small, (c.requires.names, (below.0, below.1))))

pub find_twin-requires-in-Test : goal.find_twin-requires-in-Test
find_twin-requires-in-Test t c =
    let falls = ap extent c.in-Test.is ∙ ap (λ (it : WindowTree). suc (extent it + extent c.in-Test.no.value)) (sym c.deref-in-Test.ensures) in
    let is = ap tree_in c.in-Test.is ∙ ap (λ (it : WindowTree). Undecided c.in-Test.tag c.in-Test.origin c.in-Test.on (tree_in it) (tree_in c.in-Test.no.value)) (sym c.deref-in-Test.ensures) in
    let below = below_test (tree_in c.args.tree.now) (tree_in c.deref-in-Test.result.now) (tree_in c.in-Test.no.value) c.in-Test.tag c.in-Test.origin c.in-Test.on c.args.place (c.args.place + 1)
    (tree_in c.args.all.now) is refl c.requires.place c.requires.stands in
    (omega (arith, c.decreases, falls), (c.requires.small, (c.requires.names, (below.0, below.1))))

pub find_twin-requires-in-None : goal.find_twin-requires-in-None
find_twin-requires-in-None t c =
    let falls = ap extent c.in-Test.is ∙ ap (λ (it : WindowTree). suc (extent c.in-Test.yes.value + extent it)) (sym c.deref-in-None.ensures) in
    let is : tree_in c.args.tree.now ≡ Undecided c.in-Test.tag c.in-Test.origin c.in-Test.on (tree_in c.deref-in-None-2.result.now) (tree_in c.deref-in-None.result.now) =
    ap tree_in c.in-Test.is ∙ (λ i. Undecided c.in-Test.tag c.in-Test.origin c.in-Test.on (tree_in (sym c.deref-in-None-2.ensures i)) (tree_in (sym c.deref-in-None.ensures i))) in
    let below = behind_yes (tree_in c.args.tree.now) (tree_in c.deref-in-None-2.result.now) (tree_in c.deref-in-None.result.now) c.in-Test.tag c.in-Test.origin c.in-Test.on c.args.place
    (c.args.place + 1)
    (c.args.place + 1 + c.size.result) (tree_in c.args.all.now) is refl (ap (λ (n : ℕ). c.args.place + 1 + n) c.size.ensures) c.requires.place c.requires.stands in
    (omega (arith, c.decreases, falls), (c.requires.small, (c.requires.names, (below.0, below.1))))

pub returns-else-is_twin : goal.returns-else-is_twin
returns-else-is_twin t c =
    let rest = tree_in c.deref.result.now in
    let is : tree_in c.args.tree.now ≡ Pending c.in-Step.tag c.in-Step.origin c.in-Step.item rest =
    ap tree_in c.in-Step.is ∙ ap (λ (it : WindowTree). Pending c.in-Step.tag c.in-Step.origin c.in-Step.item (tree_in it)) (sym c.deref.ensures) in
    let size : tree_size (tree_in c.args.tree.now) ≡ suc (tree_size rest) = ap tree_size is in
    let end : c.args.place + 1 + tree_size rest ≡ c.args.place + tree_size (tree_in c.args.tree.now) = omega arith in
    let forms = forms_in c.args.names.now.forms in let next = length c.args.names.now.forms in let seeker = c.args.seeker in let all = tree_in c.args.all.now in
    behind_item forms next seeker.tag seeker.origin seeker.item all c.args.place (c.args.place + 1) (c.args.place + tree_size (tree_in c.args.tree.now)) c.is_twin.result c.find_twin.result
    c.in-Step.tag c.in-Step.origin c.in-Step.item rest refl (subst (λ (it : Tree). StandsAt it c.args.place all) is c.requires.stands) c.is_twin.ensures c.if-is_twin.false
    (subst (λ (n : ℕ). FirstFrom forms next seeker.tag seeker.origin seeker.item all (c.args.place + 1) n c.find_twin.result) end c.find_twin.ensures)

pub returns-in-None : goal.returns-in-None
returns-in-None t c =
    let p = tree_in c.deref-in-None-2.result.now in let q = tree_in c.deref-in-None.result.now in
    let is : tree_in c.args.tree.now ≡ Undecided c.in-Test.tag c.in-Test.origin c.in-Test.on p q =
    ap tree_in c.in-Test.is ∙ (λ i. Undecided c.in-Test.tag c.in-Test.origin c.in-Test.on (tree_in (sym c.deref-in-None-2.ensures i)) (tree_in (sym c.deref-in-None.ensures i))) in
    let size : tree_size (tree_in c.args.tree.now) ≡ suc (tree_size p + tree_size q) = ap tree_size is in
    let count = c.size.ensures in
    let end : c.args.place + 1 + c.size.result + tree_size q ≡ c.args.place + tree_size (tree_in c.args.tree.now) = omega arith in
    let same : tree_size (tree_in c.deref-in-Test.result.now) ≡ c.size.result =
    ap (λ (it : WindowTree). tree_size (tree_in it)) (c.deref-in-Test.ensures ∙ sym c.deref-in-None-2.ensures) ∙ sym count in
    let forms = forms_in c.args.names.now.forms in let next = length c.args.names.now.forms in let seeker = c.args.seeker in let all = tree_in c.args.all.now in
    let none : FirstFrom forms next seeker.tag seeker.origin seeker.item all (c.args.place + 1) (c.args.place + 1 + tree_size (tree_in c.deref-in-Test.result.now)) None =
    subst (FirstFrom forms next seeker.tag seeker.origin seeker.item all (c.args.place + 1) (c.args.place + 1 + tree_size (tree_in c.deref-in-Test.result.now))) c.in-None.is
    c.find_twin-in-Test.ensures in
    on_no forms next seeker.tag seeker.origin seeker.item all c.args.place (c.args.place + 1) (c.args.place + 1 + c.size.result)
    (c.args.place + tree_size (tree_in c.args.tree.now)) c.find_twin-in-None.result
    c.in-Test.tag c.in-Test.origin c.in-Test.on p q refl (subst (λ (it : Tree). StandsAt it c.args.place all) is c.requires.stands)
    (subst (λ (n : ℕ). FirstFrom forms next seeker.tag seeker.origin seeker.item all (c.args.place + 1) (c.args.place + 1 + n) None) same none)
    (subst (λ (n : ℕ). FirstFrom forms next seeker.tag seeker.origin seeker.item all (c.args.place + 1 + c.size.result) n c.find_twin-in-None.result) end c.find_twin-in-None.ensures)
