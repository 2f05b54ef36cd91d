-- Plain windows of shared ones.
use Rattle.std.proofs.Common.{◌≡◌, Bool, true, false, List, length, sym, ap, subst, ◌∙◌}
use Rattle.pc_linear.specs.Form.{Form}
use Rattle.pc_window.specs.declared.tree.WindowTree.{WindowTree}
use Rattle.pc_window.specs.declared.tree.WindowTree.TheVariants as stored
use Rattle.pc_window.specs.StoredWindow.{forms_in, front_in, InNodes, NodesBehind}
use Rattle.pc_shared.specs.declared.window.SharedWindow.{SharedWindow}
use Rattle.pc_shared.specs.NodeTree.{NodeTree, nodes_in, plain_front, AreSingle, AreSingleBehind}
use Rattle.pc_shared.specs.SharedWindows.{shared_tree, IsPlain}
use Rattle.pc_shared.proofs.Meaning.{plain_front_in}

-- ---- single nodes, in memory and as plain data

pub nodes_single : (at_root : Bool) (tree : WindowTree) → InNodes at_root tree → AreSingle at_root (nodes_in tree)
nodes_single true (stored.Step' tag origin item p rest) h = nodes_single false rest h
nodes_single true (stored.Test' tag origin on p on_yes q on_no) h = (nodes_single false on_yes h.0, nodes_single false on_no h.1)
nodes_single true (stored.Node' p below) h = absurd h
nodes_single false (stored.Step' tag origin item p rest) h = absurd h
nodes_single false (stored.Test' tag origin on p on_yes q on_no) h = absurd h
nodes_single false (stored.Node' p below) h = nodes_single true below h
nodes_single at_root (stored.Exit region tag homes) h = tt
nodes_single at_root stored.Stop h = tt
nodes_single at_root (stored.Trap kind line) h = tt

pub single_nodes : (at_root : Bool) (tree : WindowTree) → AreSingle at_root (nodes_in tree) → InNodes at_root tree
single_nodes true (stored.Step' tag origin item p rest) h = single_nodes false rest h
single_nodes true (stored.Test' tag origin on p on_yes q on_no) h = (single_nodes false on_yes h.0, single_nodes false on_no h.1)
single_nodes true (stored.Node' p below) h = absurd h
single_nodes false (stored.Step' tag origin item p rest) h = absurd h
single_nodes false (stored.Test' tag origin on p on_yes q on_no) h = absurd h
single_nodes false (stored.Node' p below) h = single_nodes true below h
single_nodes at_root (stored.Exit region tag homes) h = tt
single_nodes at_root stored.Stop h = tt
single_nodes at_root (stored.Trap kind line) h = tt

pub behind_single : (tree : WindowTree) → NodesBehind tree → AreSingleBehind (nodes_in tree)
behind_single (stored.Step' tag origin item p rest) h = behind_single rest h
behind_single (stored.Test' tag origin on p on_yes q on_no) h = (behind_single on_yes h.0, behind_single on_no h.1)
behind_single (stored.Node' p below) h = nodes_single true below h
behind_single (stored.Exit region tag homes) h = tt
behind_single stored.Stop h = tt
behind_single (stored.Trap kind line) h = tt

single_behind : (tree : WindowTree) → AreSingleBehind (nodes_in tree) → NodesBehind tree
single_behind (stored.Step' tag origin item p rest) h = single_behind rest h
single_behind (stored.Test' tag origin on p on_yes q on_no) h = (single_behind on_yes h.0, single_behind on_no h.1)
single_behind (stored.Node' p below) h = single_nodes true below h
single_behind (stored.Exit region tag homes) h = tt
single_behind stored.Stop h = tt
single_behind (stored.Trap kind line) h = tt

-- a tree with the nodes of a tree in memory has its front
pub same_front : (nodes : NodeTree) (tree : WindowTree) → nodes ≡ nodes_in tree → plain_front nodes ≡ front_in tree
same_front nodes tree is = ap plain_front is ∙ plain_front_in tree

-- a tree with the nodes of a shared window, and a copy of its forms, are the plain window
pub is_plain : (w : SharedWindow) (tree : WindowTree) (forms : List Form) → nodes_in tree ≡ shared_tree w → forms ≡ w.names.forms
    → IsPlain w (record { tree = tree; names = record { forms = forms; next_variable = w.names.next_variable }; limits = w.limits; inside = w.inside })
is_plain w tree forms is same = record {
  tree = is;
  window = λ i. record {
    front = sym (same_front (shared_tree w) tree (sym is)) i;
    forms = forms_in (same i);
    next = length (same i);
    next_variable = w.names.next_variable;
    limits = w.limits;
    inside = w.inside;
  };
  nodes = λ at_root single. single_nodes at_root tree (subst (AreSingle at_root) (sym is) single);
  behind = λ single. single_behind tree (subst AreSingleBehind (sym is) single);
}

pub ruleset single = (nodes_single, behind_single)
