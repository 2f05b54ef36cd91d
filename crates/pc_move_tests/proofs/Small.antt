-- Windows that were just opened are small.
use Rattle.std.proofs.Common.{ℕ, ◌≤◌, ◌<◌, ◌^◌, length, arith}
use Rattle.pc_window.specs.declared.window.Window.{Window as StoredWindow}
use Rattle.pc_window.specs.Tree.{tree_size}
use Rattle.pc_window.specs.StoredWindow.{tree_in, IsJustOpened}

pub opened_size : (w : StoredWindow) → IsJustOpened w → tree_size (tree_in w.tree) < 2 ^ 31
opened_size w h = let a = h.size in omega arith

pub opened_names : (w : StoredWindow) → IsJustOpened w → length w.names.forms < 2 ^ 31
opened_names w h = let a = h.names in omega arith

pub opened_variables : (w : StoredWindow) → IsJustOpened w → w.names.next_variable < 2 ^ 31
opened_variables w h = let a = h.variables in omega arith

pub ruleset opened_windows = (opened_size, opened_names, opened_variables)
