-- What holds of each window that waits.
use Rattle.std.proofs.Common.{◌≡◌, List, [], ◌∷◌, ◌++◌, sym, subst}
use Rattle.std.specs.List.{AllByRecursion}
use Rattle.pc_window.specs.declared.window.Window.{Window as StoredWindow}
use Rattle.pc_window.specs.Steps.{IsProper}
use Rattle.pc_window.specs.StoredWindow.{window_in}
use Rattle.pc_fill.specs.Fillable.{IsFillable}
use Rattle.pc_replay_tests.specs.Waiting.{CanBeFilled}

behind : (windows : List StoredWindow) (w : StoredWindow) → AllByRecursion CanBeFilled windows → CanBeFilled w → AllByRecursion CanBeFilled (windows ++ w ∷ [])
behind [] w all can = (can, tt)
behind (v ∷ windows) w all can = (all.0, behind windows w all.1 can)

-- one more stands behind the others
pub one_more : (before after : List StoredWindow) (w : StoredWindow) → after ≡ before ++ w ∷ [] → AllByRecursion CanBeFilled before
    → IsProper (window_in w) → IsFillable w → AllByRecursion CanBeFilled after
one_more before after w is all proper fillable =
    subst (AllByRecursion CanBeFilled) (sym is) (behind before w all (record { proper = proper; fillable = fillable }))
