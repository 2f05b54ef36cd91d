-- Windows with nothing in front, in memory.
use Rattle.std.proofs.Common.{◌≡◌, ℕ, Option, sym, ◌∙◌, ap}
use Rattle.std.specs.Prelude.{false}
use Rattle.pc_word.specs.declared.item.Limits.{Limits}
use Rattle.pc_window.specs.declared.names.NameTable.{NameTable}
use Rattle.pc_window.specs.declared.tree.WindowTree.{WindowTree}
use Rattle.pc_window.specs.declared.window.Window.{Window as StoredWindow}
use Rattle.pc_window.specs.Tree.{Tree, Front, Unfinished, whole}
use Rattle.pc_window.specs.StoredWindow.{tree_in, front_in, window_in, supply_in, InNodes, NodesBehind}
use Rattle.pc_window.proofs.WindowsStored.{whole_in, below_unfinished, below_behind}
use Rattle.pc_arranging.specs.Arranging.{wide_limits, unfinished, begun}

-- a tree of single nodes below a root that has none is the window with nothing in its front
pub unfinished_in : (tree : WindowTree) (names : NameTable) (limits : Limits) (inside : Option ℕ) → InNodes false tree
    → window_in (record { tree = tree; names = names; limits = limits; inside = inside }) ≡ unfinished (tree_in tree) (supply_in names) limits inside
unfinished_in tree names limits inside single = λ i. record {
  front = below_unfinished tree single i;
  forms = (supply_in names).forms;
  next = (supply_in names).next;
  next_variable = (supply_in names).next_variable;
  limits = limits;
  inside = inside;
}

-- so it is the window in which steps begin
pub begun_in : (w : StoredWindow) (tree : WindowTree) → InNodes false tree → tree_in tree ≡ tree_in w.tree
    → window_in (record { tree = tree; names = w.names; limits = record { ops = 255; tests = 255; mem = 255 }; inside = w.inside }) ≡ begun (window_in w)
begun_in w tree single same =
    unfinished_in tree w.names wide_limits w.inside single
    ∙ ap (λ (t : Tree). unfinished t (supply_in w.names) wide_limits w.inside) (same ∙ sym (whole_in w.tree))

pub ruleset beginning = (begun_in, below_behind)
