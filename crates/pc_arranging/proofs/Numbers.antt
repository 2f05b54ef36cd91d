-- Places on the two sides of a test, as code goes down to it.
use Rattle.std.proofs.Common.{◌≡◌, ◌≢◌, ℕ, suc, ◌+◌, ◌-◌, ◌<◌, ◌≤◌, Bool, true, false, Option, Some, None, refl, sym, ◌∙◌, ap, lt-ltb, arith}
use Rattle.std.specs.Prelude.{nat_eq, nat_lt, nat_le, ◌&&◌, if◌then◌else◌}
use Rattle.std.proofs.lemmas.Bool.Decides.{nat_tests}
use Rattle.pc_word.proofs.Truth.{of_most}
use Rattle.pc_word.specs.declared.item.Item.{Item}
use Rattle.pc_word.specs.declared.item.Operand.{Operand}
use Rattle.pc_window.specs.declared.tree.WindowTree.{WindowTree}
use Rattle.pc_window.specs.declared.tree.WindowTree.TheVariants as stored
use Rattle.pc_window.specs.Tree.{Front, Issued, Split, Unfinished, whole, tree_size}
use Rattle.pc_window.specs.StoredWindow.{tree_in, front_in, is_leaf}
use Rattle.pc_window.proofs.WindowsStored.{whole_in}
use Rattle.pc_arranging.specs.Numbering.{place_on_no_side, place_beyond, place_across}
use Rattle.pc_fill.proofs.Entered.{at_below, on_yes_side, on_no_side}

-- ---- at the root

pub no_place : (one other size : ℕ) → ((nat_lt 0 one && nat_le one size) && nat_lt size other) ≡ false → None ≡ place_on_no_side one other size
no_place one other size e = sym (ap (λ (b : Bool). if b then Some (other - 1 - size) else None) e)

pub no_yes : (one other size : ℕ) → one ≡ 0 → None ≡ place_on_no_side one other size
no_yes one other size e = no_place one other size (grind (arith, nat_tests))

pub far_yes : (one other size : ℕ) → size < one → None ≡ place_on_no_side one other size
far_yes one other size less = no_place one other size (grind (arith, nat_tests))

pub near_no : (one other size : ℕ) → other ≤ size → None ≡ place_on_no_side one other size
near_no one other size most = no_place one other size (grind (arith, nat_tests))

pub is_place : (one other size : ℕ) → one ≢ 0 → one ≤ size → size < other → Some (other - 1 - size) ≡ place_on_no_side one other size
is_place one other size some within beyond =
    let e : ((nat_lt 0 one && nat_le one size) && nat_lt size other) ≡ true = grind (arith, nat_tests) in
    sym (ap (λ (b : Bool). if b then Some (other - 1 - size) else None) e)

-- ---- at the test

-- a leaf of the front has nothing in front
leaf_front : (p : WindowTree) → is_leaf p ≡ true → front_in p ≡ Unfinished (tree_in p)
leaf_front (stored.Step' tag origin item b rest) e = absurd (cc)
leaf_front (stored.Test' tag origin on b p d q) e = absurd (cc)
leaf_front (stored.Node' b below) e = refl
leaf_front (stored.Exit region tag homes) e = refl
leaf_front stored.Stop e = refl
leaf_front (stored.Trap kind line) e = refl

pub yes_finished : (p : WindowTree) (q : Front) (one other : ℕ) → is_leaf p ≡ false → None ≡ place_beyond (front_in p) q one other
yes_finished (stored.Step' tag origin item b rest) q one other e = refl
yes_finished (stored.Test' tag origin on b p d r) q one other e = refl
yes_finished (stored.Node' b below) q one other e = absurd (cc)
yes_finished (stored.Exit region tag homes) q one other e = absurd (cc)
yes_finished stored.Stop q one other e = absurd (cc)
yes_finished (stored.Trap kind line) q one other e = absurd (cc)

pub no_finished : (p q : WindowTree) (one other : ℕ) → is_leaf p ≡ true → is_leaf q ≡ false → None ≡ place_beyond (front_in p) (front_in q) one other
no_finished p q one other e f = by_no q f ∙ ap (λ (g : Front). place_beyond g (front_in q) one other) (sym (leaf_front p e))
  where
    by_no : (q : WindowTree) → is_leaf q ≡ false → None ≡ place_beyond (Unfinished (tree_in p)) (front_in q) one other
    by_no (stored.Step' tag origin item b rest) f = refl
    by_no (stored.Test' tag origin on b r d s) f = refl
    by_no (stored.Node' b below) f = absurd (cc)
    by_no (stored.Exit region tag homes) f = absurd (cc)
    by_no stored.Stop f = absurd (cc)
    by_no (stored.Trap kind line) f = absurd (cc)

pub both_open : (p q : WindowTree) (one other size : ℕ) (r : Option ℕ) → is_leaf p ≡ true → is_leaf q ≡ true → size ≡ tree_size (tree_in p) → r ≡ place_on_no_side one other size
    → r ≡ place_beyond (front_in p) (front_in q) one other
both_open p q one other size r e f same is =
    is ∙ ap (place_on_no_side one other) same ∙ (λ i. place_beyond (sym (leaf_front p e) i) (sym (leaf_front q f) i) one other)

-- ---- on the way down

module _ (t o test one other : ℕ) (r : Option ℕ) where
  pub item_here : (x : Item) (rest : Front) → test ≡ 0 → None ≡ place_across (Issued t o x rest) test one other
  item_here x rest e = sym (ap (λ (n : ℕ). place_across (Issued t o x rest) n one other) e)

  pub item_below : (x : Item) (rest : Front) → test ≢ 0 → r ≡ place_across rest (test - 1) (one - 1) (other - 1) → r ≡ place_across (Issued t o x rest) test one other
  item_below x rest ne is =
      let e : test ≡ suc (test - 1) = omega arith in
      is ∙ sym (at_below None (λ n. place_across rest n (one - 1) (other - 1)) test (test - 1) e)

  pub test_here : (on : Operand) (p q : Front) → test ≡ 0 → r ≡ place_beyond p q one other → r ≡ place_across (Split t o on p q) test one other
  test_here on p q e is = is ∙ sym (ap (λ (n : ℕ). place_across (Split t o on p q) n one other) e)

  module _ (on : Operand) (p q : WindowTree) (size : ℕ) (is_size : size ≡ tree_size (tree_in p)) (ne : test ≢ 0) where
    step : test ≡ suc (test - 1)
    step = omega arith

    same_size : size ≡ tree_size (whole (front_in p))
    same_size = is_size ∙ sym (ap tree_size (whole_in p))

    pub test_yes : test - 1 < size → r ≡ place_across (front_in p) (test - 1) (one - 1) (other - 1) → r ≡ place_across (Split t o on (front_in p) (front_in q)) test one other
    test_yes less is =
        let m = tree_size (whole (front_in p)) in
        let same = same_size in
        is ∙ sym (on_yes_side (place_beyond (front_in p) (front_in q) one other) (λ n. place_across (front_in p) n (one - 1) (other - 1))
        (λ n. place_across (front_in q) (n - m) (one - 1 - m) (other - 1 - m)) test (test - 1) m step (omega arith))

    pub test_no : size ≤ test - 1 → r ≡ place_across (front_in q) (test - 1 - size) (one - 1 - size) (other - 1 - size)
        → r ≡ place_across (Split t o on (front_in p) (front_in q)) test one other
    test_no most is =
        let m = tree_size (whole (front_in p)) in
        let same = same_size in
        is ∙ ap (λ (k : ℕ). place_across (front_in q) (test - 1 - k) (one - 1 - k) (other - 1 - k)) same
        ∙ sym (on_no_side (place_beyond (front_in p) (front_in q) one other) (λ n. place_across (front_in p) n (one - 1) (other - 1))
        (λ n. place_across (front_in q) (n - m) (one - 1 - m) (other - 1 - m)) test (test - 1) m step (omega arith))

pub ruleset beyond = (yes_finished, no_finished, both_open)

pub ruleset across = (no_yes, far_yes, near_no, is_place, item_here, item_below, test_here, test_yes, test_no)
