-- What a window needs for steps to be done, and has afterwards.
use Rattle.std.specs.Prelude.{ℕ, ◌^◌, Option, Some, None}
use Rattle.pc_table.specs.Table.{Table}
use Rattle.pc_window.specs.declared.window.Window.{Window as StoredWindow}
use Rattle.pc_window.specs.Tree.{whole}
use Rattle.pc_window.specs.There.{PartsAreThere}
use Rattle.pc_window.specs.WindowRun.{Window}
use Rattle.pc_window.specs.Steps.{IsProper}
use Rattle.pc_window.specs.StoredWindow.{window_in, NodesBehind}
use Rattle.pc_arranging.specs.Arranging.{IsSmall}

-- the greatest tag of a window in which steps are done
abbrev pub most_tag : ℕ
most_tag = 2 ^ 30

-- a window is proper and not too large, and what it names is there
pub record CanArrange (table : Table) (w : Window) : Type 0 where
  pub proper : IsProper w
  pub small : IsSmall w
  pub parts : PartsAreThere table most_tag (whole w.front)

-- so it is once steps were done; and behind its front each item and each test is a node of its own
pub record IsArrangedIn (table : Table) (w : StoredWindow) : Type 0 where
  pub can : CanArrange table (window_in w)
  pub nodes : NodesBehind w.tree

-- the same where a window is given
abbrev pub ArrangedIn : Table → Option StoredWindow → Type 0
ArrangedIn table None = Unit {0}
ArrangedIn table (Some w) = IsArrangedIn table w
