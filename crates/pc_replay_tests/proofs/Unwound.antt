-- Windows that may be unwound or filled.
use Rattle.std.proofs.Common.{◌≡◌, ℕ, ◌≤◌, ◌<◌, ◌^◌, true, length, sym, ap, subst, arith}
use Rattle.pc_word.specs.declared.item.Limits.{Limits}
use Rattle.pc_table.specs.declared.table.RegionTable.{RegionTable}
use Rattle.pc_table.proofs.StoredRegions.{as_many}
use Rattle.pc_table.specs.StoredTable.{table_of}
use Rattle.pc_window.specs.declared.window.Window.{Window as StoredWindow}
use Rattle.pc_window.specs.Steps.{opened_window}
use Rattle.pc_window.specs.StoredWindow.{tree_in, window_in, InNodes}
use Rattle.pc_window.specs.Tree.{tree_size}
use Rattle.pc_window.specs.WindowRun.{Window}
use Rattle.pc_window.proofs.WindowsStored.{whole_in, in_nodes_behind}
use Rattle.pc_fill.specs.Fillable.{IsFillable}
use Rattle.pc_unwind.specs.Unwindable.{CanUnwind}
use Rattle.pc_unwind.proofs.Opened.{opened_unwinds}

-- one that was just opened
pub opened_can : (table : RegionTable) (limits : Limits) (region : ℕ) (w : StoredWindow) → region < length table.regions
    → window_in w ≡ opened_window (table_of table) limits region → CanUnwind (table_of table) (window_in w)
opened_can table limits region w there is =
    let many = as_many table.regions in
    subst (λ (u : Window). CanUnwind (table_of table) u) (sym is) (opened_unwinds (table_of table) table.kept limits region (omega (arith, there, many)))

-- a small one of single nodes
pub small_fills : (w : StoredWindow) → InNodes true w.tree → tree_size (tree_in w.tree) ≤ 2048
    → length w.names.forms ≤ 2 ^ 30 → w.names.next_variable ≤ 2 ^ 30 → IsFillable w
small_fills w nodes size names variables =
    record { size = size; nodes = in_nodes_behind w.tree nodes; names = omega (arith, names); variables = omega (arith, variables) }
