-- What single moves keep, one after another.
use Rattle.std.specs.Prelude.{◌<◌, ◌^◌, length}
use Rattle.pc_window.specs.declared.window.Window.{Window as StoredWindow}
use Rattle.pc_window.specs.Names.{uses}
use Rattle.pc_window.specs.Ready.{ReadyPlace}
use Rattle.pc_window.specs.Tree.{tree_size, whole}
use Rattle.pc_window.specs.Steps.{IsProper}
use Rattle.pc_window.specs.StoredWindow.{tree_in, window_in}
use Rattle.pc_moveop.specs.Moving.{SameBounds, WalkKept}

-- what legal moves keep of a window: the other one is proper, has the same limits and the same loop, and from each state in which
-- forms hold and the walk is no fault it has the same walk, and its forms hold
pub record ComesTo (w v : StoredWindow) : Type 0 where
  pub proper : IsProper (window_in v)
  pub bounds : SameBounds w v
  pub walk : WalkKept w v

-- a window that is small enough for moves, and for the items and names that they add
pub record IsSmall (w : StoredWindow) : Type 0 where
  pub size : tree_size (tree_in w.tree) < 2 ^ 30
  pub names : length w.names.forms < 2 ^ 31
  pub variables : w.names.next_variable < 2 ^ 31

-- nothing that stands behind the front is ready and has room
abbrev pub NothingIsReady : StoredWindow → Type 0
NothingIsReady w = ReadyPlace (uses (whole (window_in w).front)) (window_in w) → ⊥
