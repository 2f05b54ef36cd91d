-- What the steps of a certificate make of a window.
use Rattle.std.specs.Prelude.{◌≡◌, ℕ, ◌≤◌, ◌^◌, false, List, [], ◌∷◌, Option, Some, None}
use Rattle.pc_word.specs.declared.item.Limits.{Limits}
use Rattle.pc_table.specs.Table.{Table}
use Rattle.pc_window.specs.declared.window.Window.{Window as StoredWindow}
use Rattle.pc_window.specs.Tree.{Tree, Unfinished, whole, tree_size}
use Rattle.pc_window.specs.Opening.{Supply, Grafted}
use Rattle.pc_window.specs.WindowRun.{Window, supply_of}
use Rattle.pc_window.specs.StoredWindow.{window_in}
use Rattle.pc_fill.specs.Bringing.{IsBrought}
use Rattle.pc_cert.specs.declared.certificate.Step.{Step}
use Rattle.pc_cert.specs.declared.certificate.Step.TheVariants.{Bring, Join, Open, Enter, Use}
use Rattle.pc_arranging.specs.Numbering.{place_across}
use Rattle.pc_arranging.specs.Stubs.{opened_at}
use Rattle.pc_arranging.specs.Exchanging.{used_at}
use Rattle.pc_arranging.specs.Naming.{entered_at}

-- ---- windows with nothing in front

-- the limits of a front that is arranged: as wide as can be
abbrev pub wide_limits : Limits
wide_limits = record { ops = 255; tests = 255; mem = 255 }

-- a window over a tree, with nothing in its front
abbrev pub unfinished : Tree → Supply → Limits → Option ℕ → Window
unfinished tree names limits inside =
    record { front = Unfinished tree; forms = names.forms; next = names.next; next_variable = names.next_variable; limits = limits; inside = inside }

-- the window in which steps begin: nothing is in its front, whose limits are wide
abbrev pub begun : Window → Window
begun w = unfinished (whole w.front) (supply_of w) wide_limits w.inside

-- a window as a tree and its names
abbrev pub grafted : Window → Grafted
grafted w = record { tree = whole w.front; names = supply_of w }

-- the same window over another tree, with these names, and with nothing in its front
abbrev pub over_tree : Window → Tree → Supply → Window
over_tree w tree names = unfinished tree names w.limits w.inside

-- ---- one step

-- one step makes this of a window. An item or test comes into the front from its place; or an item with its twin on the other side of a
-- test. Where a stub is opened or entered, or a Copy used, the front begins anew: what was in it stays in the tree where it had come to
pub data Does (table : Table) : Step → Window → Window → Type 0 where
  brings : (place : ℕ) {w v : Window} → IsBrought place None w v → Does table (Bring place) w v
  joins : (test on_yes on_no across : ℕ) {w v : Window} → place_across w.front test on_yes on_no ≡ Some across → IsBrought on_yes (Some across) w v
      → Does table (Join test on_yes on_no) w v
  opens : (leaf : ℕ) (made : Grafted) {w v : Window} → opened_at table false w.inside (supply_of w) (whole w.front) leaf ≡ Some made
      → v ≡ over_tree w made.tree made.names → Does table (Open leaf) w v
  enters : (leaf : ℕ) (made : Grafted) {w v : Window} → entered_at table w.inside (grafted w) leaf ≡ Some made
      → v ≡ over_tree w made.tree made.names → Does table (Enter leaf) w v
  uses_copy : (copy part : ℕ) (made : Tree) {w v : Window} → used_at (whole w.front) copy part ≡ Some made
      → v ≡ over_tree w made (supply_of w) → Does table (Use copy part) w v

-- the most items and tests of a window, names, and form variables, after each step
abbrev pub most_parts : ℕ
most_parts = 4096

abbrev pub most_names : ℕ
most_names = 2 ^ 30

-- a window is not too large
pub record IsSmall (w : Window) : Type 0 where
  pub size : tree_size (whole w.front) ≤ most_parts
  pub names : w.next ≤ most_names
  pub variables : w.next_variable ≤ most_names

-- one step, after which the window is not too large
pub record IsStepped (table : Table) (step : Step) (w v : Window) : Type 0 where
  pub does : Does table step w v
  pub small : IsSmall v

-- ---- steps

-- steps one after the other
pub data AreDone (table : Table) : List Step → Window → Window → Type 0 where
  none_left : {w : Window} → AreDone table [] w w
  one_done : {step : Step} {steps : List Step} {w v u : Window} → IsStepped table step w v → AreDone table steps v u → AreDone table (step ∷ steps) w u

-- the steps of an entry arrange a window: they are done one after the other, from a window with nothing in its front on
abbrev pub Arranges : Table → List Step → Window → Window → Type 0
Arranges table steps w v = AreDone table steps (begun w) v

-- the window that is arranged so, or none, where some step is not legal
abbrev pub ArrangesOrNot : Table → List Step → Window → Option StoredWindow → Type 0
ArrangesOrNot table steps w (Some later) = Arranges table steps w (window_in later)
ArrangesOrNot table steps w None = (v : Window) → Arranges table steps w v → ⊥
