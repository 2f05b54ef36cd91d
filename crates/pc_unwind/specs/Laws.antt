-- Laws of unwinding. Each is the contract of a function of laws.rt, which does nothing.
use Rattle.std.specs.Prelude.{ℕ, ◌<◌, length}
use Rattle.pc_word.specs.declared.item.Limits.{Limits}
use Rattle.pc_table.specs.Table.{Table}
use Rattle.pc_table.specs.TableKeeps.{TableKeeps}
use Rattle.pc_window.specs.Steps.{opened_window}
use Rattle.pc_unwind.specs.Unwindable.{CanUnwind}

-- a window that was just opened may be unwound
abbrev pub OpenedWindowsCanUnwind : Type 0
OpenedWindowsCanUnwind =
    (table : Table) → TableKeeps table → (limits : Limits) (region : ℕ) → region < length table.regions → CanUnwind table (opened_window table limits region)
