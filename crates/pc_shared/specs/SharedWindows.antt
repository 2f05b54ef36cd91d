-- The window that a shared window is.
use Rattle.std.specs.Prelude.{◌≡◌, ℕ, Bool, length}
use Rattle.pc_window.specs.declared.window.Window.{Window as StoredWindow}
use Rattle.pc_window.specs.Steps.{IsProper}
use Rattle.pc_window.specs.StoredWindow.{forms_in, window_in, InNodes, NodesBehind}
use Rattle.pc_window.specs.WindowRun.{Window}
use Rattle.pc_shared.specs.declared.window.SharedWindow.{SharedWindow}
use Rattle.pc_shared.specs.Merging.{MergedFrom}
use Rattle.pc_shared.specs.NodeTree.{NodeTree, plain_front, nodes_in, AreSingle, AreSingleBehind}
use Rattle.pc_shared.specs.Unfolding.{tree_at, Stands}

-- its tree, with the leaves at which its nodes end
abbrev pub shared_tree : SharedWindow → NodeTree
shared_tree w = tree_at w.depth w.store w.root

-- the plain window
abbrev pub shared_window : SharedWindow → Window
shared_window w = record {
  front = plain_front (shared_tree w);
  forms = forms_in w.names.forms;
  next = length w.names.forms;
  next_variable = w.names.next_variable;
  limits = w.limits;
  inside = w.inside;
}

-- a number stands in it
abbrev pub IsNode : SharedWindow → ℕ → Type 0
IsNode w id = Stands w.depth w.store id

-- a window in memory is the plain one, and its nodes end where those of the shared one do
pub record IsPlain (w : SharedWindow) (v : StoredWindow) : Type 0 where
  pub tree : nodes_in v.tree ≡ shared_tree w
  pub window : window_in v ≡ shared_window w
  pub nodes : (at_root : Bool) → AreSingle at_root (shared_tree w) → InNodes at_root v.tree
  pub behind : AreSingleBehind (shared_tree w) → NodesBehind v.tree

-- ---- steps

-- the plain window was changed to another; if that one is proper, this is it with one name for definitions that are alike
pub record Stepped (Gives : StoredWindow → StoredWindow → Type 0) (w v : SharedWindow) : Type 0 where
  pub before : StoredWindow
  pub after : StoredWindow
  pub plain : IsPlain w before
  pub gives : Gives before after
  pub merged : IsProper (window_in after) → MergedFrom (window_in after) (shared_window v)
  pub nodes : (at_root : Bool) → InNodes at_root after.tree → AreSingle at_root (shared_tree v)
  pub behind : NodesBehind after.tree → AreSingleBehind (shared_tree v)

-- the step answered so of the plain window
pub record Answered (Gives : StoredWindow → Type 0) (w : SharedWindow) : Type 0 where
  pub before : StoredWindow
  pub plain : IsPlain w before
  pub gives : Gives before
