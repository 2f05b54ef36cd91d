-- One item or test that comes into a window's front from the place that is named.
use Rattle.std.specs.Prelude.{◌≡◌, ℕ, Option, Some, None}
use Rattle.pc_window.specs.declared.window.Window.{Window as StoredWindow}
use Rattle.pc_window.specs.Tree.{whole}
use Rattle.pc_window.specs.Names.{uses}
use Rattle.pc_window.specs.WindowRun.{Window}
use Rattle.pc_window.specs.Filled.{priority_of, Jump}
use Rattle.pc_window.specs.StoredWindow.{window_in, NodesBehind}

-- the last two numbers of a priority: of what comes alone, or of what comes with its twin, which stands at this place of the no side
abbrev pub IsTwin : Option ℕ → ℕ → ℕ → Type 0
IsTwin None side place = side ≡ 1
IsTwin (Some k) side place = (side ≡ 0) × (place ≡ k)

-- what stands at this preorder place comes into the front, by a jump as in filling, alone or with this twin
pub record IsBrought (place : ℕ) (twin : Option ℕ) (w v : Window) : Type 0 where
  pub jump : Jump (uses (whole w.front)) w v
  pub from : (priority_of jump.enters).2 ≡ place
  pub beside : IsTwin twin (priority_of jump.enters).3 (priority_of jump.enters).4

-- the window once it has come, or none, where nothing may come so
abbrev pub BringsOrNot : (place : ℕ) (twin : Option ℕ) → Window → Option StoredWindow → Type 0
BringsOrNot place twin w (Some later) = IsBrought place twin w (window_in later) × NodesBehind later.tree
BringsOrNot place twin w None = (v : Window) → IsBrought place twin w v → ⊥
