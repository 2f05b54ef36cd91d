use Rattle.std.proofs.Common.{◌≡◌, ◌-◌, ℕ, ◌∙◌, ap, sym, subst}
use Rattle.pc_window.specs.Tree.{tree_size}
use Rattle.pc_window.specs.declared.tree.WindowTree.{WindowTree}
use Rattle.pc_window.specs.StoredWindow.{tree_in, front_in}
use Rattle.pc_arranging.specs.Numbering.{place_across}
use Rattle.pc_arranging.proofs.Numbers.{test_yes, test_no}
use Rattle.pc_arranging.proofs.numbering.+place_across.Goals as goal

pub returns-then-test-size : goal.returns-then-test-size
returns-then-test-size t c =
    let test = c.args.test in let one = c.args.on_yes in let other = c.args.on_no in let p = c.in-Test.yes.value in let size = c.size-size.result in
    let r = c.place_across-then-test-size.result in
    let first : c.saturating_sub-on_yes-in-Test.result ≡ one - 1 = c.saturating_sub-on_yes-in-Test.ensures in
    let second : c.saturating_sub-on_no.result ≡ other - 1 = c.saturating_sub-on_no.ensures in
    let found : r ≡ place_across (front_in p) (test - 1) c.saturating_sub-on_yes-in-Test.result c.saturating_sub-on_no.result =
    subst (λ (it : WindowTree). r ≡ place_across (front_in it) (test - 1) c.saturating_sub-on_yes-in-Test.result c.saturating_sub-on_no.result) c.deref-then-test-size.ensures
    c.place_across-then-test-size.ensures in
    subst (λ (it : WindowTree). r ≡ place_across (front_in it) test one other) (sym c.in-Test.is)
    (test_yes c.in-Test.tag c.in-Test.origin test one other r c.in-Test.on p c.in-Test.no.value size
    (subst (λ (it : WindowTree). size ≡ tree_size (tree_in it)) c.deref-in-Test.ensures c.size-size.ensures) c.if-test-eq0-2.false c.if-test-size.true
    (found ∙ (λ i. place_across (front_in p) (test - 1) (first i) (second i))))

pub returns-else-test-size : goal.returns-else-test-size
returns-else-test-size t c =
    let test = c.args.test in let one = c.args.on_yes in let other = c.args.on_no in let q = c.in-Test.no.value in let size = c.size-size.result in
    let r = c.place_across-in-Test.result in
    let first : c.saturating_sub-in-Test.result ≡ one - 1 - size = c.saturating_sub-in-Test.ensures ∙ ap (λ (k : ℕ). k - size) c.saturating_sub-on_yes-in-Test.ensures in
    let second : c.saturating_sub-on_no-in-Test.result ≡ other - 1 - size = c.saturating_sub-on_no-in-Test.ensures ∙ ap (λ (k : ℕ). k - size) c.saturating_sub-on_no.ensures in
    let found : r ≡ place_across (front_in q) (test - 1 - size) c.saturating_sub-in-Test.result c.saturating_sub-on_no-in-Test.result =
    subst (λ (it : WindowTree). r ≡ place_across (front_in it) (test - 1 - size) c.saturating_sub-in-Test.result c.saturating_sub-on_no-in-Test.result) c.deref-in-Test-2.ensures
    c.place_across-in-Test.ensures in
    subst (λ (it : WindowTree). r ≡ place_across (front_in it) test one other) (sym c.in-Test.is)
    (test_no c.in-Test.tag c.in-Test.origin test one other r c.in-Test.on c.in-Test.yes.value q size
    (subst (λ (it : WindowTree). size ≡ tree_size (tree_in it)) c.deref-in-Test.ensures c.size-size.ensures) c.if-test-eq0-2.false c.if-test-size.false
    (found ∙ (λ i. place_across (front_in q) (test - 1 - size) (first i) (second i))))
