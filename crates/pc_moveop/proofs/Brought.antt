-- A node that is taken, changed and put back.
use Rattle.std.proofs.Common.{◌≡◌, ℕ, ◌<◌, List, Option, Some, refl, sym, ◌∙◌, ap, subst, arith}
use Rattle.std.specs.Prelude.{IsSome}
use Rattle.pc_window.specs.declared.tree.WindowTree.{WindowTree}
use Rattle.pc_window.specs.Tree.{Stop_exit, tree_size}
use Rattle.pc_window.specs.StoredWindow.{tree_in}
use Rattle.pc_moveop.specs.NodeTree.{NodeTree, Leads_out, nodes_in, whole_tree, node_at, with_node}
use Rattle.pc_moveop.specs.Moving.{NodeChanges}
use Rattle.pc_moveop.proofs.Paths.{tree_same, put_again, node_put, node_size_at, put_grows}

same_size : (t : WindowTree) → tree_size (whole_tree (nodes_in t)) ≡ tree_size (tree_in t)
same_size t = ap tree_size (tree_same t)

-- the node that is taken out is small
pub node_small : (m : ℕ) (path : List ℕ) (t n : WindowTree) → node_at path (nodes_in t) ≡ Some (nodes_in n) → tree_size (tree_in t) < m → tree_size (tree_in n) < m
node_small m path t n at small = let a = same_size t in let b = same_size n in let c = node_size_at path (nodes_in n) (nodes_in t) at in omega arith

-- so is the tree that is left
pub left_small : (m : ℕ) (path : List ℕ) (t u : WindowTree) → nodes_in u ≡ with_node path (Leads_out Stop_exit) (nodes_in t) → tree_size (tree_in t) < m → tree_size (tree_in u) < m
left_small m path t u is small =
    let a = same_size t in let b = same_size u in let c = put_grows path (Leads_out Stop_exit) (nodes_in t) in
    let d : tree_size (whole_tree (nodes_in u)) ≡ tree_size (whole_tree (with_node path (Leads_out Stop_exit) (nodes_in t))) = ap (λ (n : NodeTree). tree_size (whole_tree n)) is in
    omega arith

-- the path still leads there
pub still_there : (path : List ℕ) (t u : WindowTree) (n : NodeTree) → nodes_in u ≡ with_node path (Leads_out Stop_exit) (nodes_in t) → node_at path (nodes_in t) ≡ Some n
    → IsSome (node_at path (nodes_in u))
still_there path t u n is at =
    subst (λ (o : Option NodeTree). IsSome o) (sym (ap (node_at path) is ∙ node_put path n (Leads_out Stop_exit) (nodes_in t) at)) refl

-- the node has changed
pub put_back : (path : List ℕ) (t u v n : NodeTree) (change : NodeTree → NodeTree) (hole : NodeTree)
    → node_at path t ≡ Some n → u ≡ with_node path hole t → v ≡ with_node path (change n) u
    → NodeChanges t v path change
put_back path t u v n change hole at taken put = record { node = n; at = at; tree = put ∙ ap (with_node path (change n)) taken ∙ put_again path hole (change n) t }

pub ruleset bringing = (node_small, left_small, still_there, put_back)
