-- Windows that were just opened.
use Rattle.std.proofs.Common.{◌≡◌, ◌<◌, ◌^◌, true, ap, arith}
use Rattle.pc_window.specs.declared.window.Window.{Window as StoredWindow}
use Rattle.pc_window.specs.Tree.{whole, tree_size}
use Rattle.pc_window.specs.StoredWindow.{tree_in, front_in, window_in, InNodes, IsJustOpened}
use Rattle.pc_fill.specs.Fillable.{IsFillable}
use Rattle.pc_fill.specs.Laws.{OpenedWindowsCanBeFilled}
use Rattle.pc_window.proofs.WindowsStored.{whole_in, in_nodes_behind}

pub opened_fillable : OpenedWindowsCanBeFilled
opened_fillable w opened nodes =
    let size = opened.size in let names = opened.names in let variables = opened.variables in
    record { size = omega arith; nodes = in_nodes_behind w.tree nodes; names = omega arith; variables = omega arith }

-- it is small
pub opened_small : (w : StoredWindow) → IsJustOpened w → tree_size (whole (window_in w).front) < 2 ^ 31
opened_small w opened =
    let size = opened.size in
    let same : tree_size (whole (front_in w.tree)) ≡ tree_size (tree_in w.tree) = ap tree_size (whole_in w.tree) in
    omega arith

pub can_be_filled : (w : StoredWindow) → IsJustOpened w → InNodes true w.tree → IsFillable w
can_be_filled w opened nodes = opened_fillable w opened nodes

pub ruleset opened_windows = (opened_small, can_be_filled)
