-- Windows that wait to be filled.
use Rattle.pc_window.specs.declared.window.Window.{Window as StoredWindow}
use Rattle.pc_window.specs.Steps.{IsProper}
use Rattle.pc_window.specs.StoredWindow.{window_in}
use Rattle.pc_fill.specs.Fillable.{IsFillable}

-- what each of them keeps
pub record CanBeFilled (w : StoredWindow) : Type 0 where
  pub proper : IsProper (window_in w)
  pub fillable : IsFillable w
