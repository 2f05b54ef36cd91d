-- Windows that were just opened are small.
use Rattle.std.proofs.Common.{◌≡◌, ◌<◌, ◌^◌, ap, arith}
use Rattle.pc_window.specs.declared.window.Window.{Window as StoredWindow}
use Rattle.pc_window.specs.Tree.{whole, tree_size}
use Rattle.pc_window.specs.StoredWindow.{tree_in, front_in, window_in, IsJustOpened}
use Rattle.pc_window.proofs.WindowsStored.{whole_in}

pub opened_small : (w : StoredWindow) → IsJustOpened w → tree_size (whole (window_in w).front) < 2 ^ 31
opened_small w opened =
    let size = opened.size in
    let same : tree_size (whole (front_in w.tree)) ≡ tree_size (tree_in w.tree) = ap tree_size (whole_in w.tree) in
    omega arith

pub ruleset opened_windows = (opened_small)
