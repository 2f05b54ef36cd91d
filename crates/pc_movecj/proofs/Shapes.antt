-- A test that moves leaves no empty node, and makes a window at most about twice as great.
use Rattle.std.proofs.Common.{◌≡◌, ℕ, suc, ◌+◌, ◌≤◌, true, false, List, [], ◌∷◌, Option, Some, None, sym, ◌∙◌, ap, subst, arith}
use Rattle.std.specs.Prelude.{◌-◌, if◌then◌else◌, nat_eq, nat_lt}
use Rattle.pc_word.specs.declared.item.Item.{Item}
use Rattle.pc_word.specs.declared.item.Operand.{Operand}
use Rattle.pc_window.specs.declared.window.Window.{Window as StoredWindow}
use Rattle.pc_window.specs.StoredWindow.{tree_in}
use Rattle.pc_window.specs.Tree.{tree_size}
use Rattle.pc_moveop.specs.NodeTree.{NodeTree, Item_node, Test_node, Leads_to, Leads_out, nodes_in, whole_tree, leaf_count, child_at, led_on, node_at, child_changed, with_node, HasRoot, NoEmptyNode}
use Rattle.pc_moveop.specs.Taking.{leaf_to}
use Rattle.pc_moveop.proofs.Paths.{tree_same}
use Rattle.pc_moveop.proofs.Shapes.{leaf_nodes, leaf_size, changed_nodes}
use Rattle.pc_movecj.specs.Dividing.{yes_part, no_part, divided}
use Rattle.pc_movecj.specs.MovingTest.{TestHasMoved}

-- ---- no node is empty

yes_nodes : (t : NodeTree) → NoEmptyNode t → NoEmptyNode (yes_part t)
yes_nodes (Item_node t o x rest) h = yes_nodes rest h
yes_nodes (Test_node t o on p q) h = h.0
yes_nodes (Leads_to below) h = h
yes_nodes (Leads_out out) h = h

no_nodes : (t : NodeTree) → NoEmptyNode t → NoEmptyNode (no_part t)
no_nodes (Item_node t o x rest) h = no_nodes rest h
no_nodes (Test_node t o on p q) h = h.1
no_nodes (Leads_to below) h = tt
no_nodes (Leads_out out) h = tt

module _ (tag origin : ℕ) (on : Operand) where
  divided_nodes : (leaf : ℕ) (t : NodeTree) → NoEmptyNode t → NoEmptyNode (divided tag origin on leaf t)
  divided_nodes leaf (Item_node t o x rest) h = divided_nodes leaf rest h
  divided_nodes leaf (Test_node t o other p q) h =
      elim (nat_lt leaf (leaf_count p)) as (λ b. NoEmptyNode (if b then Test_node t o other (divided tag origin on leaf p) q
      else Test_node t o other p (divided tag origin on (leaf - leaf_count p) q))) [
        | true ↦ (divided_nodes leaf p h.0, h.1)
        | false ↦ (h.0, divided_nodes (leaf - leaf_count p) q h.1)
      ]
  divided_nodes leaf (Leads_to below) h =
      elim (nat_eq leaf 0) as (λ b. NoEmptyNode (if b then Test_node tag origin on (leaf_to (yes_part below)) (leaf_to (no_part below)) else Leads_to below)) [
        | true ↦ (leaf_nodes (yes_part below) (yes_nodes below h.1), leaf_nodes (no_part below) (no_nodes below h.1))
        | false ↦ h
      ]
  divided_nodes leaf (Leads_out out) h = h

  divided_root : (leaf : ℕ) (t : NodeTree) → HasRoot t → HasRoot (divided tag origin on leaf t)
  divided_root leaf (Item_node t o x rest) h = tt
  divided_root leaf (Test_node t o other p q) h = elim (nat_lt leaf (leaf_count p)) as (λ b. HasRoot (if b then Test_node t o other (divided tag origin on leaf p) q
      else Test_node t o other p (divided tag origin on (leaf - leaf_count p) q))) [ true ↦ tt | false ↦ tt ]
  divided_root leaf (Leads_to below) h = absurd h
  divided_root leaf (Leads_out out) h = absurd h

pub moved_nodes : (w v : StoredWindow) (parent : List ℕ) (leaf : ℕ) → TestHasMoved w v parent leaf → NoEmptyNode (nodes_in w.tree) → NoEmptyNode (nodes_in v.tree)
moved_nodes w v parent leaf h =
    let m = h.test in
    changed_nodes (nodes_in w.tree) (nodes_in v.tree) parent (divided m.tag m.origin m.on leaf) h.changes
    (record { nodes = divided_nodes m.tag m.origin m.on leaf h.changes.node; root = divided_root m.tag m.origin m.on leaf h.changes.node })

-- ---- how many items and tests

yes_size : (t : NodeTree) → tree_size (whole_tree (yes_part t)) ≤ tree_size (whole_tree t)
yes_size (Item_node t o x rest) = let h = yes_size rest in omega arith
yes_size (Test_node t o on p q) = omega arith
yes_size (Leads_to below) = omega arith
yes_size (Leads_out out) = omega arith

no_size : (t : NodeTree) → tree_size (whole_tree (no_part t)) ≤ tree_size (whole_tree t)
no_size (Item_node t o x rest) = let h = no_size rest in omega arith
no_size (Test_node t o on p q) = omega arith
no_size (Leads_to below) = omega arith
no_size (Leads_out out) = omega arith

-- at most one more than twice as many
abbrev IsDouble : NodeTree → NodeTree → Type 0
IsDouble t u = tree_size (whole_tree u) ≤ suc (tree_size (whole_tree t) + tree_size (whole_tree t))

same_double : (t : NodeTree) → IsDouble t t
same_double t = omega arith

item_double : (t o : ℕ) (x : Item) (rest rest' : NodeTree) → IsDouble rest rest' → IsDouble (Item_node t o x rest) (Item_node t o x rest')
item_double t o x rest rest' h = omega arith

yes_double : (t o : ℕ) (on : Operand) (p p' q : NodeTree) → IsDouble p p' → IsDouble (Test_node t o on p q) (Test_node t o on p' q)
yes_double t o on p p' q h = omega arith

no_double : (t o : ℕ) (on : Operand) (p q q' : NodeTree) → IsDouble q q' → IsDouble (Test_node t o on p q) (Test_node t o on p q')
no_double t o on p q q' h = omega arith

divided_size : (tag origin : ℕ) (on : Operand) (leaf : ℕ) (t : NodeTree) → IsDouble t (divided tag origin on leaf t)
divided_size tag origin on leaf (Item_node t o x rest) = item_double t o x rest (divided tag origin on leaf rest) (divided_size tag origin on leaf rest)
divided_size tag origin on leaf (Test_node t o other p q) =
    elim (nat_lt leaf (leaf_count p)) as (λ b. IsDouble (Test_node t o other p q) (if b then Test_node t o other (divided tag origin on leaf p) q
    else Test_node t o other p (divided tag origin on (leaf - leaf_count p) q))) [
      | true ↦ yes_double t o other p (divided tag origin on leaf p) q (divided_size tag origin on leaf p)
      | false ↦ no_double t o other p q (divided tag origin on (leaf - leaf_count p) q) (divided_size tag origin on (leaf - leaf_count p) q)
    ]
divided_size tag origin on leaf (Leads_to below) =
    elim (nat_eq leaf 0) as (λ b. IsDouble (Leads_to below) (if b then Test_node tag origin on (leaf_to (yes_part below)) (leaf_to (no_part below)) else Leads_to below)) [
      | true ↦ (let a = yes_size below in let b = no_size below in let c = leaf_size (yes_part below) in let d = leaf_size (no_part below) in omega arith)
      | false ↦ same_double (Leads_to below)
    ]
divided_size tag origin on leaf (Leads_out out) = same_double (Leads_out out)

child_double : (leaf : ℕ) (f : NodeTree → NodeTree) (next : NodeTree → Option NodeTree) (n : NodeTree) → ((c : NodeTree) → next c ≡ Some n → IsDouble c (f c))
    → (t : NodeTree) → led_on (child_at leaf t) next ≡ Some n → IsDouble t (child_changed leaf f t)
child_double leaf f next n double (Item_node t o x rest) at = item_double t o x rest (child_changed leaf f rest) (child_double leaf f next n double rest at)
child_double leaf f next n double (Test_node t o on p q) at =
    elim (nat_lt leaf (leaf_count p)) as (λ b. led_on (if b then child_at leaf p else child_at (leaf - leaf_count p) q) next ≡ Some n
    → IsDouble (Test_node t o on p q) (if b then Test_node t o on (child_changed leaf f p) q else Test_node t o on p (child_changed (leaf - leaf_count p) f q))) [
      | true ↦ λ e. yes_double t o on p (child_changed leaf f p) q (child_double leaf f next n double p e)
      | false ↦ λ e. no_double t o on p q (child_changed (leaf - leaf_count p) f q) (child_double (leaf - leaf_count p) f next n double q e)
    ] at
child_double leaf f next n double (Leads_to below) at =
    elim (nat_eq leaf 0) as (λ b. led_on (if b then Some below else None) next ≡ Some n → IsDouble (Leads_to below) (if b then Leads_to (f below) else Leads_to below)) [
      | true ↦ λ e. double below e
      | false ↦ λ e. absurd (cc)
    ] at
child_double leaf f next n double (Leads_out out) at = absurd (cc)

node_double : (path : List ℕ) (n n' t : NodeTree) → node_at path t ≡ Some n → IsDouble n n' → IsDouble t (with_node path n' t)
node_double [] n n' t at double = let here : n ≡ t = cc in subst (λ (u : NodeTree). IsDouble u n') here double
node_double (leaf ∷ path) n n' t at double = child_double leaf (with_node path n') (node_at path) n (λ c e. node_double path n n' c e double) t at

pub moved_size : (w v : StoredWindow) (parent : List ℕ) (leaf : ℕ) → TestHasMoved w v parent leaf
    → tree_size (tree_in v.tree) ≤ suc (tree_size (tree_in w.tree) + tree_size (tree_in w.tree))
moved_size w v parent leaf h =
    let m = h.test in
    let n = h.changes.node in
    let double = node_double parent n (divided m.tag m.origin m.on leaf n) (nodes_in w.tree) h.changes.at (divided_size m.tag m.origin m.on leaf n) in
    let to : tree_size (tree_in v.tree) ≡ tree_size (whole_tree (with_node parent (divided m.tag m.origin m.on leaf n) (nodes_in w.tree))) =
    ap tree_size (sym (tree_same v.tree)) ∙ ap (λ (u : NodeTree). tree_size (whole_tree u)) h.changes.tree in
    let from : tree_size (whole_tree (nodes_in w.tree)) ≡ tree_size (tree_in w.tree) = ap tree_size (tree_same w.tree) in
    omega arith
