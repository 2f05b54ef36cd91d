-- The changes of windows that a search makes: opening, filling, cutting, rebasing, unwinding and tidying.
use Rattle.std.specs.Prelude.{◌≡◌, ℕ, ◌≤◌, if◌then◌else◌, Option}
use Rattle.pc_word.specs.declared.item.Limits.{Limits}
use Rattle.pc_table.specs.Table.{Table}
use Rattle.pc_table.specs.Loops.{is_inside, innermost_loop}
use Rattle.pc_window.specs.Tree.{Tree, Pending, Undecided, Exit, Stop_exit, Trap_exit, Front, Issued, Split, Unfinished, whole, front_of}
use Rattle.pc_window.specs.Names.{uses}
use Rattle.pc_window.specs.WindowRun.{Window, supply_of}
use Rattle.pc_window.specs.Opening.{Supply, Grafted, TreeBelow, FormsBelow, opened}
use Rattle.pc_window.specs.Unwinding.{Unwinds}
use Rattle.pc_window.specs.Tidying.{tidied}
use Rattle.pc_window.specs.Rebasing.{rebased}
use Rattle.pc_window.specs.Filled.{IsWindow, Filled}
use Rattle.pc_word.specs.Row.{Row, Then, Either, At_leaf}
use Rattle.pc_window.specs.Kept.{Left, Rest, Gone, Finished, Trapped_at}

-- the window that a tree becomes: its first item or test is the front
abbrev pub window_of : Tree → Supply → Limits → Option ℕ → Window
window_of tree names limits inside =
    record { front = front_of tree; forms = names.forms; next = names.next; next_variable = names.next_variable; limits = limits; inside = inside }

-- a window with another tree
abbrev pub with_tree : Window → Tree → Window
with_tree w tree = window_of tree (supply_of w) w.limits w.inside

-- a window as a tree and its names
abbrev pub grafted_of : Window → Grafted
grafted_of w = record { tree = whole w.front; names = supply_of w }

-- ---- opening, unwinding, tidying, rebasing

-- the window that a region is opened as
abbrev pub opened_window : Table → Limits → ℕ → Window
opened_window table limits region =
    window_of (opened table (innermost_loop table region) region).tree (opened table (innermost_loop table region) region).names limits (innermost_loop table region)

-- a region opens as a window
abbrev pub Opens : Table → Limits → ℕ → Window → Type 0
Opens table limits region w = w ≡ opened_window table limits region

-- a window unwinds to another, with this window number
pub record UnwindsTo (table : Table) (number : ℕ) (w v : Window) : Type 0 where
  pub unwound : Grafted
  pub unwinds : Unwinds table w.inside number (grafted_of w) unwound
  pub is : v ≡ window_of unwound.tree unwound.names w.limits w.inside

-- a window tidied is another
abbrev pub Tidies : Window → Window → Type 0
Tidies w v = v ≡ with_tree w (tidied (whole w.front))

-- a window rebased is another
abbrev pub Rebases : Window → Window → Type 0
Rebases w v = v ≡ window_of (whole w.front) (rebased (whole w.front) (supply_of w)) w.limits w.inside

-- ---- filling and cutting

-- a window is filled: its parameters are known before it
abbrev pub FillsTo : Window → Window → Type 0
FillsTo w v = Filled (uses (whole w.front)) w v

-- what is left at a leaf: a window, but for a stub that leads out of the window's loop, the end, and a trap
abbrev pub left_of : Table → Window → Tree → Left
left_of table w (Pending tag origin item rest) = Rest (with_tree w (Pending tag origin item rest))
left_of table w (Undecided tag origin on on_yes on_no) = Rest (with_tree w (Undecided tag origin on on_yes on_no))
left_of table w (Exit region tag homes) = if is_inside table w.inside region then Rest (with_tree w (Exit region tag homes)) else Gone region homes
left_of table w Stop_exit = Finished
left_of table w (Trap_exit kind line) = Trapped_at kind line

-- a stub that is a whole window leads out
abbrev pub left_at_root : Table → Window → Tree → Left
left_at_root table w (Exit region tag homes) = Gone region homes
left_at_root table w tree = left_of table w tree

-- a front as a row
abbrev pub front_row : {L : Type 0} → (Tree → L) → Front → Row L
front_row left (Issued tag origin item rest) = Then item (front_row left rest)
front_row left (Split tag origin on on_yes on_no) = Either on (front_row left on_yes) (front_row left on_no)
front_row left (Unfinished rest) = At_leaf (left rest)

-- the front is cut off
abbrev pub cut_row : Table → Window → Front → Row Left
cut_row table w (Unfinished rest) = At_leaf (left_at_root table w rest)
cut_row table w front = front_row (left_of table w) front

-- a window whose front is cut off is this row
abbrev pub Cuts : Table → Window → Row Left → Type 0
Cuts table w row = row ≡ cut_row table w w.front

-- ---- proper windows

-- limits that leave room for one item or test
pub record Positive (limits : Limits) : Type 0 where
  pub ops : 1 ≤ limits.ops
  pub tests : 1 ≤ limits.tests
  pub mem : 1 ≤ limits.mem

-- what every window of a search keeps: its parameters are known, each other name is defined before it is used and once on a path,
-- its front does not hang on itself, it is within its limits, and what is new is new
pub record IsProper (w : Window) : Type 0 where
  pub window : IsWindow (uses (whole w.front)) w
  pub room : Positive w.limits
  pub names_below : TreeBelow w.next (whole w.front)
  pub forms_below : FormsBelow (supply_of w)

-- each window that is left at a leaf
abbrev pub LeftIs : (Window → Type 0) → Left → Type 0
LeftIs P (Rest w) = P w
LeftIs P (Gone region homes) = Unit {0}
LeftIs P Finished = Unit {0}
LeftIs P (Trapped_at kind line) = Unit {0}

-- what holds of each window that is left at a leaf of a row
abbrev pub EachLeft : (Window → Type 0) → Row Left → Type 0
EachLeft P (Then item rest) = EachLeft P rest
EachLeft P (Either on on_yes on_no) = EachLeft P on_yes × EachLeft P on_no
EachLeft P (At_leaf left) = LeftIs P left
