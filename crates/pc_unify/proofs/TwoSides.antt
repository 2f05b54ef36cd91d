-- Two leaves directly under one test, and where that test stands.
use Rattle.std.proofs.Common.{◌≡◌, ℕ, ◌+◌, ◌<◌, Bool, true, false, refl, sym, subst, arith}
use Rattle.std.specs.Prelude.{◌-◌, ◌&&◌, if◌then◌else◌, nat_eq, nat_lt}
use Rattle.std.proofs.lemmas.Bool.{eqb-true, ltb-false, lt-ltb, le-ltb}
use Rattle.pc_word.proofs.Truth.{and_true}
use Rattle.pc_word.specs.declared.item.Item.{Item}
use Rattle.pc_word.specs.declared.item.Operand.{Operand}
use Rattle.pc_moveop.specs.NodeTree.{NodeTree, Item_node, Test_node, Leads_to, Leads_out, leaf_count}
use Rattle.pc_unify.specs.Unifying.{leads_on, is_yes_leaf, are_sides}

-- the test stands here, below an item, or on a side of another test
pub data Sides : ℕ → NodeTree → Type 0 where
  Here : (t o : ℕ) (on : Operand) (below below' : NodeTree) → Sides 0 (Test_node t o on (Leads_to below) (Leads_to below'))
  Behind : (leaf t o : ℕ) (y : Item) (rest : NodeTree) → Sides leaf rest → Sides leaf (Item_node t o y rest)
  Within_yes : (leaf t o : ℕ) (on : Operand) (p q : NodeTree) → is_yes_leaf leaf p q ≡ false → nat_lt leaf (leaf_count p) ≡ true → nat_lt (leaf + 1) (leaf_count p) ≡ true
      → Sides leaf p → Sides leaf (Test_node t o on p q)
  Within_no : (leaf t o : ℕ) (on : Operand) (p q : NodeTree) → is_yes_leaf leaf p q ≡ false → nat_lt leaf (leaf_count p) ≡ false → nat_lt (leaf + 1) (leaf_count p) ≡ false
      → leaf + 1 - leaf_count p ≡ (leaf - leaf_count p) + 1 → Sides (leaf - leaf_count p) q → Sides leaf (Test_node t o on p q)

-- the next leaf is one of the same node
next_within : (leaf : ℕ) (node : NodeTree) → Sides leaf node → leaf + 1 < leaf_count node
next_within leaf node (Here t o on below below') = omega arith
next_within leaf node (Behind l t o y rest s) = next_within l rest s
next_within leaf node (Within_yes l t o on p q here lt next s) = let h = next_within l p s in omega arith
next_within leaf node (Within_no l t o on p q here lt next same s) = let h = next_within (l - leaf_count p) q s in let k = ltb-false l (leaf_count p) lt in omega (arith, h, k)

right_here : (leaf t o : ℕ) (on : Operand) (p q : NodeTree) → is_yes_leaf leaf p q ≡ true → Sides leaf (Test_node t o on p q)
right_here leaf t o on p q e =
    let a = and_true (nat_eq leaf 0) (leads_on p && leads_on q) e in
    let b = and_true (leads_on p) (leads_on q) a.1 in
    subst (λ (l : ℕ). Sides l (Test_node t o on p q)) (sym (eqb-true leaf 0 a.0)) (by_sides p q b.0 b.1)
  where
    by_sides : (p q : NodeTree) → leads_on p ≡ true → leads_on q ≡ true → Sides 0 (Test_node t o on p q)
    by_sides (Leads_to below) (Leads_to below') e f = Here t o on below below'
    by_sides (Leads_to below) (Item_node t' o' y rest) e f = absurd (cc)
    by_sides (Leads_to below) (Test_node t' o' on' r s) e f = absurd (cc)
    by_sides (Leads_to below) (Leads_out out) e f = absurd (cc)
    by_sides (Item_node t' o' y rest) q e f = absurd (cc)
    by_sides (Test_node t' o' on' r s) q e f = absurd (cc)
    by_sides (Leads_out out) q e f = absurd (cc)

pub sides_told : (leaf : ℕ) (node : NodeTree) → are_sides leaf node ≡ true → Sides leaf node
sides_told leaf (Item_node t o y rest) e = Behind leaf t o y rest (sides_told leaf rest e)
sides_told leaf (Test_node t o on p q) e = by_tests (is_yes_leaf leaf p q) (nat_lt leaf (leaf_count p)) refl refl e (sides_told leaf p) (sides_told (leaf - leaf_count p) q)
  where
    by_tests : (here lt : Bool) → is_yes_leaf leaf p q ≡ here → nat_lt leaf (leaf_count p) ≡ lt
        → (if here then true else if lt then are_sides leaf p else are_sides (leaf - leaf_count p) q) ≡ true
        → (are_sides leaf p ≡ true → Sides leaf p) → (are_sides (leaf - leaf_count p) q ≡ true → Sides (leaf - leaf_count p) q) → Sides leaf (Test_node t o on p q)
    by_tests true lt a b e on_yes on_no = right_here leaf t o on p q a
    by_tests false true a b e on_yes on_no = let s = on_yes e in Within_yes leaf t o on p q a b (lt-ltb (leaf + 1) (leaf_count p) (next_within leaf p s)) s
    by_tests false false a b e on_yes on_no =
        let k = ltb-false leaf (leaf_count p) b in
        Within_no leaf t o on p q a b (le-ltb (leaf + 1) (leaf_count p) (omega (arith, k))) (omega (arith, k)) (on_no e)
sides_told leaf (Leads_to below) e = absurd (cc)
sides_told leaf (Leads_out out) e = absurd (cc)
