-- Where two items become one there is one item less, and no node becomes empty.
use Rattle.std.proofs.Common.{◌≡◌, ℕ, suc, ◌+◌, Bool, true, false, List, [], ◌∷◌, Option, Some, None, length, sym, ◌∙◌, ap, subst, arith}
use Rattle.std.specs.Prelude.{◌-◌, if◌then◌else◌, nat_eq, nat_lt}
use Rattle.pc_word.specs.declared.item.Item.{Item}
use Rattle.pc_word.specs.declared.item.Operand.{Operand}
use Rattle.pc_word.specs.Items.{dest_of}
use Rattle.pc_window.specs.declared.window.Window.{Window as StoredWindow}
use Rattle.pc_window.specs.StoredWindow.{tree_in}
use Rattle.pc_window.specs.Tree.{Tree, tree_size}
use Rattle.pc_moveop.specs.NodeTree.{NodeTree, Item_node, Test_node, Leads_to, Leads_out, nodes_in, whole_tree, node_size}
use Rattle.pc_moveop.specs.NodeTree.{leaf_count, child_at, led_on, node_at, child_changed, with_node, HasRoot, NoEmptyNode}
use Rattle.pc_moveop.specs.Climbing.{Passed, Passed_item, Passed_test, Mover, passing, mover_in, mover_at}
use Rattle.pc_moveop.specs.Taking.{nodes_mapped, node_without, leaf_to, leaf_without, Coming}
use Rattle.pc_moveop.proofs.Paths.{tree_same}
use Rattle.pc_moveop.proofs.Shapes.{leaf_size, leaf_nodes, changed_nodes, mapped_size, mapped_nodes}
use Rattle.pc_unify.specs.Unifying.{AreTwins, TwinsBehind, joined, joint_of, HaveJoined}
use Rattle.pc_unify.proofs.TwoSides.{Sides, Here, Behind, Within_yes, Within_no, sides_told}
use Rattle.pc_word.specs.Naming.{renamed}

-- ---- an item that is taken out

-- one item or test less, and no node is empty where none was
pub record Shrinks (from to : NodeTree) : Type 0 where
  pub size : suc (tree_size (whole_tree to)) ≡ tree_size (whole_tree from)
  pub nodes : NoEmptyNode from → NoEmptyNode to

below_item : (t o : ℕ) (y : Item) (rest rest' : NodeTree) → Shrinks rest rest' → Shrinks (Item_node t o y rest) (Item_node t o y rest')
below_item t o y rest rest' h = record { size = ap suc h.size; nodes = h.nodes }

below_yes : (t o : ℕ) (on : Operand) (p p' q : NodeTree) → Shrinks p p' → Shrinks (Test_node t o on p q) (Test_node t o on p' q)
below_yes t o on p p' q h = record { size = let e = h.size in omega (arith, e); nodes = λ n. (h.nodes n.0, n.1) }

below_no : (t o : ℕ) (on : Operand) (p q q' : NodeTree) → Shrinks q q' → Shrinks (Test_node t o on p q) (Test_node t o on p q')
below_no t o on p q q' h = record { size = let e = h.size in omega (arith, e); nodes = λ n. (n.0, h.nodes n.1) }

-- where an item is found
abbrev IfFound : Option Mover → Type 0 → Type 0
IfFound (Some m) P = P
IfFound None P = Unit {0}

found_passing : (what : Passed) (found : Option Mover) (P Q : Type 0) → (P → Q) → IfFound found P → IfFound (passing what found) Q
found_passing what (Some m) P Q f h = f h
found_passing what None P Q f h = tt

taken_out : (d : Option ℕ) (place : ℕ) (t : NodeTree) → IfFound (mover_in place t) (Shrinks t (node_without d place t))
taken_out d place (Item_node t o y rest) =
    elim (nat_eq place 0) as (λ b. IfFound (if b then Some (record { tag = t; origin = o; item = y; way = [] }) else passing (Passed_item false o y) (mover_in (place - 1) rest))
    (Shrinks (Item_node t o y rest) (if b then nodes_mapped (renamed (dest_of y) d) rest else Item_node t o y (node_without d (place - 1) rest)))) [
      | true ↦ record { size = ap suc (mapped_size (renamed (dest_of y) d) rest); nodes = mapped_nodes (renamed (dest_of y) d) rest }
      | false ↦ found_passing (Passed_item false o y) (mover_in (place - 1) rest) _ _ (below_item t o y rest (node_without d (place - 1) rest)) (taken_out d (place - 1) rest)
    ]
taken_out d place (Test_node t o on p q) =
    elim (nat_eq place 0) as (λ b. IfFound
    (if b then None else (if nat_lt (place - 1) (node_size p) then passing Passed_test (mover_in (place - 1) p) else passing Passed_test (mover_in (place - 1 - node_size p) q)))
    (Shrinks (Test_node t o on p q) (if b then Test_node t o on p q else
    (if nat_lt (place - 1) (node_size p) then Test_node t o on (node_without d (place - 1) p) q else Test_node t o on p (node_without d (place - 1 - node_size p) q))))) [
      | true ↦ tt
      | false ↦ (elim (nat_lt (place - 1) (node_size p)) as (λ b. IfFound (if b then passing Passed_test (mover_in (place - 1) p) else passing Passed_test (mover_in (place - 1 - node_size p) q))
          (Shrinks (Test_node t o on p q) (if b then Test_node t o on (node_without d (place - 1) p) q else Test_node t o on p (node_without d (place - 1 - node_size p) q)))) [
            | true ↦ found_passing Passed_test (mover_in (place - 1) p) _ _ (below_yes t o on p (node_without d (place - 1) p) q) (taken_out d (place - 1) p)
            | false ↦ found_passing Passed_test (mover_in (place - 1 - node_size p) q) _ _ (below_no t o on p q (node_without d (place - 1 - node_size p) q))
                (taken_out d (place - 1 - node_size p) q)
          ])
    ]
taken_out d place (Leads_to below) = tt
taken_out d place (Leads_out out) = tt

-- ---- two that become one

-- where both are found
abbrev IfBoth : Option Mover → Option Mover → Type 0 → Type 0
IfBoth found other P = IfFound found (IfFound other P)

both_passing : (what : Passed) (found other : Option Mover) (P Q : Type 0) → (P → Q) → IfBoth found other P → IfBoth (passing what found) (passing what other) Q
both_passing what (Some m) (Some k) P Q f h = f h
both_passing what (Some m) None P Q f h = tt
both_passing what None other P Q f h = tt

both_so : (found other : Option Mover) (P Q : Type 0) → (P → Q) → IfBoth found other P → IfBoth found other Q
both_so (Some m) (Some k) P Q f h = f h
both_so (Some m) None P Q f h = tt
both_so None other P Q f h = tt

both_found : (found other : Option Mover) (P Q R : Type 0) → (P → Q → R) → IfFound found P → IfFound other Q → IfBoth found other R
both_found (Some m) (Some k) P Q R f h g = f h g
both_found (Some m) None P Q R f h g = tt
both_found None other P Q R f h g = tt

module _ (c : Coming) (yes_place no_place : ℕ) where
  here_shrinks : (t o : ℕ) (on : Operand) (below below' left left' : NodeTree) → Shrinks below left → Shrinks below' left'
      → Shrinks (Test_node t o on (Leads_to below) (Leads_to below')) (Item_node c.tag c.origin c.item (Test_node t o on (leaf_to left) (leaf_to left')))
  here_shrinks t o on below below' left left' h h' = record {
    size = let a = h.size in let b = h'.size in let d = leaf_size left in let e = leaf_size left' in omega (arith, a, b, d, e);
    nodes = λ n. (leaf_nodes left (h.nodes n.0.1), leaf_nodes left' (h'.nodes n.1.1));
  }

  abbrev JoinedShrinks : ℕ → NodeTree → Type 0
  JoinedShrinks leaf t = IfBoth (mover_at leaf yes_place t) (mover_at (leaf + 1) no_place t) (Shrinks t (joined c leaf yes_place no_place t))

  by_yes : (leaf t o : ℕ) (on : Operand) (p q : NodeTree) (here lt next : Bool) → here ≡ false → lt ≡ true → next ≡ true → JoinedShrinks leaf p
      → IfBoth (if lt then mover_at leaf yes_place p else mover_at (leaf - leaf_count p) yes_place q)
      (if next then mover_at (leaf + 1) no_place p else mover_at (leaf + 1 - leaf_count p) no_place q)
      (Shrinks (Test_node t o on p q)
      (if here then Item_node c.tag c.origin c.item (Test_node t o on (leaf_without (dest_of c.item) yes_place p) (leaf_without (dest_of c.item) no_place q))
      else if lt then Test_node t o on (joined c leaf yes_place no_place p) q else Test_node t o on p (joined c (leaf - leaf_count p) yes_place no_place q)))
  by_yes leaf t o on p q false true true a b e h =
      both_so (mover_at leaf yes_place p) (mover_at (leaf + 1) no_place p) _ _ (below_yes t o on p (joined c leaf yes_place no_place p) q) h
  by_yes leaf t o on p q true lt next a b e h = absurd (cc)
  by_yes leaf t o on p q false false next a b e h = absurd (cc)
  by_yes leaf t o on p q false true false a b e h = absurd (cc)

  by_no : (leaf t o : ℕ) (on : Operand) (p q : NodeTree) (here lt next : Bool) (after : ℕ) → here ≡ false → lt ≡ false → next ≡ false
      → after ≡ (leaf - leaf_count p) + 1 → JoinedShrinks (leaf - leaf_count p) q
      → IfBoth (if lt then mover_at leaf yes_place p else mover_at (leaf - leaf_count p) yes_place q) (if next then mover_at (leaf + 1) no_place p else mover_at after no_place q)
      (Shrinks (Test_node t o on p q)
      (if here then Item_node c.tag c.origin c.item (Test_node t o on (leaf_without (dest_of c.item) yes_place p) (leaf_without (dest_of c.item) no_place q))
      else if lt then Test_node t o on (joined c leaf yes_place no_place p) q else Test_node t o on p (joined c (leaf - leaf_count p) yes_place no_place q)))
  by_no leaf t o on p q false false false after a b e same h =
      both_so (mover_at (leaf - leaf_count p) yes_place q) (mover_at after no_place q) _ _ (below_no t o on p q (joined c (leaf - leaf_count p) yes_place no_place q))
      (subst (λ (l : ℕ). IfBoth (mover_at (leaf - leaf_count p) yes_place q) (mover_at l no_place q) (Shrinks q (joined c (leaf - leaf_count p) yes_place no_place q))) (sym same) h)
  by_no leaf t o on p q true lt next after a b e same h = absurd (cc)
  by_no leaf t o on p q false true next after a b e same h = absurd (cc)
  by_no leaf t o on p q false false true after a b e same h = absurd (cc)

  joined_shrinks : (leaf : ℕ) (t : NodeTree) → Sides leaf t → JoinedShrinks leaf t
  joined_shrinks leaf node (Here t o on below below') =
      both_found (mover_in yes_place below) (mover_in no_place below') _ _ _
      (here_shrinks t o on below below' (node_without (dest_of c.item) yes_place below) (node_without (dest_of c.item) no_place below'))
      (taken_out (dest_of c.item) yes_place below) (taken_out (dest_of c.item) no_place below')
  joined_shrinks leaf node (Behind l t o y rest s) =
      both_passing (Passed_item true o y) (mover_at l yes_place rest) (mover_at (l + 1) no_place rest) _ _ (below_item t o y rest (joined c l yes_place no_place rest)) (joined_shrinks l rest s)
  joined_shrinks leaf node (Within_yes l t o on p q here lt next s) =
      by_yes l t o on p q _ (nat_lt l (leaf_count p)) (nat_lt (l + 1) (leaf_count p)) here lt next (joined_shrinks l p s)
  joined_shrinks leaf node (Within_no l t o on p q here lt next same s) =
      by_no l t o on p q _ (nat_lt l (leaf_count p)) (nat_lt (l + 1) (leaf_count p)) (l + 1 - leaf_count p) here lt next same (joined_shrinks (l - leaf_count p) q s)

  joined_root : (leaf : ℕ) (t : NodeTree) → Sides leaf t → HasRoot (joined c leaf yes_place no_place t)
  joined_root leaf node (Here t o on below below') = tt
  joined_root leaf node (Behind l t o y rest s) = tt
  joined_root leaf node (Within_yes l t o on p q here lt next s) = rw (here, lt) tt
  joined_root leaf node (Within_no l t o on p q here lt next same s) = rw (here, lt) tt

  -- where they are
  pub twins_shrink : (leaf : ℕ) (t : NodeTree) (m k : Mover) → Sides leaf t → mover_at leaf yes_place t ≡ Some m → mover_at (leaf + 1) no_place t ≡ Some k
      → Shrinks t (joined c leaf yes_place no_place t)
  twins_shrink leaf t m k s found other =
      let P = Shrinks t (joined c leaf yes_place no_place t) in
      subst (λ (o : Option Mover). IfBoth (Some m) o P) other (subst (λ (o : Option Mover). IfBoth o (mover_at (leaf + 1) no_place t) P) found (joined_shrinks leaf t s))

-- ---- the whole window

child_less : (leaf : ℕ) (f : NodeTree → NodeTree) (next : NodeTree → Option NodeTree) (n : NodeTree)
    → ((c : NodeTree) → next c ≡ Some n → suc (tree_size (whole_tree (f c))) ≡ tree_size (whole_tree c)) → (t : NodeTree) → led_on (child_at leaf t) next ≡ Some n
    → suc (tree_size (whole_tree (child_changed leaf f t))) ≡ tree_size (whole_tree t)
child_less leaf f next n less (Item_node t o x rest) at = ap suc (child_less leaf f next n less rest at)
child_less leaf f next n less (Test_node t o on p q) at =
    elim (nat_lt leaf (leaf_count p)) as (λ b. led_on (if b then child_at leaf p else child_at (leaf - leaf_count p) q) next ≡ Some n
    → suc (tree_size (whole_tree (if b then Test_node t o on (child_changed leaf f p) q else Test_node t o on p (child_changed (leaf - leaf_count p) f q))))
    ≡ suc (tree_size (whole_tree p) + tree_size (whole_tree q))) [
      | true ↦ λ e. (let h = child_less leaf f next n less p e in omega (arith, h))
      | false ↦ λ e. (let h = child_less (leaf - leaf_count p) f next n less q e in omega (arith, h))
    ] at
child_less leaf f next n less (Leads_to below) at =
    elim (nat_eq leaf 0) as (λ b. led_on (if b then Some below else None) next ≡ Some n
    → suc (tree_size (whole_tree (if b then Leads_to (f below) else Leads_to below))) ≡ tree_size (whole_tree below)) [
      | true ↦ λ e. less below e
      | false ↦ λ e. absurd (cc)
    ] at
child_less leaf f next n less (Leads_out out) at = absurd (cc)

node_less : (path : List ℕ) (n n' t : NodeTree) → node_at path t ≡ Some n → suc (tree_size (whole_tree n')) ≡ tree_size (whole_tree n)
    → suc (tree_size (whole_tree (with_node path n' t))) ≡ tree_size (whole_tree t)
node_less [] n n' t at less = let here : n ≡ t = cc in less ∙ ap (λ (u : NodeTree). tree_size (whole_tree u)) here
node_less (leaf ∷ path) n n' t at less = child_less leaf (with_node path n') (node_at path) n (λ c e. node_less path n n' c e less) t at

module _ (w v : StoredWindow) (parent : List ℕ) (leaf yes_place no_place : ℕ) (h : HaveJoined w v parent leaf yes_place no_place) where
  twins : AreTwins h.changes.node leaf yes_place no_place
  twins = subst (TwinsBehind leaf yes_place no_place) h.changes.at h.there

  coming : Coming
  coming = joint_of (length w.names.forms) h.mover

  shrinks : Shrinks h.changes.node (joined coming leaf yes_place no_place h.changes.node)
  shrinks = twins_shrink coming yes_place no_place leaf h.changes.node twins.on_yes twins.on_no (sides_told leaf h.changes.node twins.sides) twins.is_yes twins.is_no

  pub joined_size : suc (tree_size (tree_in v.tree)) ≡ tree_size (tree_in w.tree)
  unfolding coming
  joined_size =
      ap (λ (u : Tree). suc (tree_size u)) (sym (tree_same v.tree)) ∙ ap (λ (u : NodeTree). suc (tree_size (whole_tree u))) h.changes.tree
      ∙ node_less parent h.changes.node (joined coming leaf yes_place no_place h.changes.node) (nodes_in w.tree) h.changes.at shrinks.size ∙ ap tree_size (tree_same w.tree)

  pub joined_nodes : NoEmptyNode (nodes_in w.tree) → NoEmptyNode (nodes_in v.tree)
  unfolding coming
  joined_nodes = changed_nodes (nodes_in w.tree) (nodes_in v.tree) parent (joined coming leaf yes_place no_place) h.changes
      (record { nodes = shrinks.nodes; root = λ r. joined_root coming yes_place no_place leaf h.changes.node (sides_told leaf h.changes.node twins.sides) })
