-- The laws of what waits. Each is the contract of a function of laws.rt, which does nothing.
use Rattle.std.specs.Prelude.{◌≡◌, ℕ, ◌≤◌, Bool, List, Option, Some, None, slice_get}
use Rattle.std.specs.List.{AllByRecursion}
use Rattle.pc_word.specs.declared.item.Item.{Item}
use Rattle.pc_window.specs.Tree.{whole}
use Rattle.pc_window.specs.Names.{uses}
use Rattle.pc_window.specs.Filled.{HasSpace}
use Rattle.pc_window.specs.Ready.{IsReadyAt, ReadyPlace}
use Rattle.pc_window.specs.Unwinding.{front_tag}
use Rattle.pc_window.specs.WindowRun.{Window}
use Rattle.pc_window.specs.Steps.{IsProper, FillsTo}
use Rattle.pc_waiting.specs.declared.obstacle.Obstacle.{Obstacle}
use Rattle.pc_waiting.specs.declared.obstacle.Waiting.{Waiting}
use Rattle.pc_waiting.specs.Waiting.{Standing, standing_of, HasObstacle, waits_for, WhatWaits}

-- what stands behind the front is ready where it stands, and has room, where the window's parameters are known before it
pub record IsReady (w : Window) (it : Standing) : Type 0 where
  pub ready : IsReadyAt (uses (whole w.front)) w.forms it.tag it.origin it.place it.what w.front
  pub room : HasSpace w.limits it.what w.front

-- what is ready and has room has no obstacle
abbrev pub ReadyMeansFree : Type 0
ReadyMeansFree = (first : ℕ) (w : Window) → IsProper w → (n : ℕ) (it : Standing) → slice_get (standing_of w.front) n ≡ Some it
    → IsReady w it → (obstacle : Obstacle) → HasObstacle first w it (Some obstacle) → ⊥

-- and what has none is ready and has room
abbrev pub FreeMeansReady : Type 0
FreeMeansReady = (first : ℕ) (w : Window) → IsProper w → (n : ℕ) (it : Standing) → slice_get (standing_of w.front) n ≡ Some it
    → HasObstacle first w it None → IsReady w it

-- an item or test of this tag and origin, at this place, is one of these
pub record StandsAmong (standing : List Standing) (tag origin place : ℕ) (what : Option Item) : Type 0 where
  pub number : ℕ
  pub it : Standing
  pub there : slice_get standing number ≡ Some it
  pub same_tag : it.tag ≡ tag
  pub same_origin : it.origin ≡ origin
  pub same_place : it.place ≡ place
  pub same_what : it.what ≡ what

-- what is ready is one of what stands behind the front
abbrev pub WhatIsReadyStands : Type 0
WhatIsReadyStands = (known : ℕ → Bool) (w : Window) (r : ReadyPlace known w) → StandsAmong (standing_of w.front) r.tag r.origin r.place r.what

-- an entry says what keeps something
pub record Tells (first : ℕ) (w : Window) (it : Standing) (entry : Waiting) : Type 0 where
  pub obstacle : Obstacle
  pub is : entry ≡ waits_for first it obstacle
  pub keeps : HasObstacle first w it (Some obstacle)

-- in a window that was filled each item and test behind the front has its entry
abbrev pub NothingWaitsWithoutReason : Type 0
NothingWaitsWithoutReason = (first : ℕ) (w v : Window) → IsProper w → FillsTo w v → (found : List Waiting) → WhatWaits first v found
    → (n : ℕ) (it : Standing) → slice_get (standing_of v.front) n ≡ Some it → (entry : Waiting) × (slice_get found n ≡ Some entry) × Tells first v it entry

-- what waits, and why, is determined
abbrev pub WaitsHaveOneAnswer : Type 0
WaitsHaveOneAnswer = (first : ℕ) (w : Window) (found others : List Waiting) → WhatWaits first w found → WhatWaits first w others → found ≡ others

-- ---- iterations

-- neither its tag nor one above it is less than this
pub record IsFrom (first : ℕ) (it : Standing) : Type 0 where
  pub own : first ≤ it.tag
  pub all_above : AllByRecursion (λ last. first ≤ last.tag) it.above

-- counted from the window's least tag no iteration is cut off: of what waits, and of what is named as its obstacle
abbrev pub NoIterationIsCutOff : Type 0
NoIterationIsCutOff = (w : Window) (n : ℕ) (it : Standing) → slice_get (standing_of w.front) n ≡ Some it → IsFrom (front_tag (whole w.front)) it
