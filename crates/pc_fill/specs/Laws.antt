-- The law of windows that can be filled.
use Rattle.std.specs.Prelude.{true}
use Rattle.pc_window.specs.declared.window.Window.{Window as StoredWindow}
use Rattle.pc_window.specs.StoredWindow.{InNodes, IsJustOpened}
use Rattle.pc_fill.specs.Fillable.{IsFillable}

-- a window that was just opened can be filled
abbrev pub OpenedWindowsCanBeFilled : Type 0
OpenedWindowsCanBeFilled = (w : StoredWindow) → IsJustOpened w → InNodes true w.tree → IsFillable w
