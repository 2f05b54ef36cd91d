-- The laws of windows. Each is the contract of a function of laws.rt, which does nothing.
use Rattle.std.specs.Prelude.{◌≡◌, ℕ, suc, ◌≤◌, ℤ, Bool, true, List, length, nat_eq, Option, Some}
use Rattle.std.specs.List.{AllByRecursion, count_by, filter_map, list_any, IsDistinct}
use Rattle.pc_word.specs.declared.item.Limits.{Limits}
use Rattle.pc_word.specs.State.{State}
use Rattle.pc_word.specs.Items.{dest_of, is_memory, is_effect}
use Rattle.pc_word.specs.Row.{Row, items_of, tests_of, paths_of, row_step}
use Rattle.pc_linear.specs.Form.{Form}
use Rattle.pc_table.specs.Table.{Table, region_tree, region_live}
use Rattle.pc_table.specs.TableKeeps.{TableKeeps, untested}
use Rattle.pc_window.specs.declared.home.Home.{Home}
use Rattle.pc_window.specs.Tree.{Tree, Exit, whole}
use Rattle.pc_window.specs.Names.{uses, IsNew, Scoped}
use Rattle.pc_window.specs.Walk.{IsWhole, walk, outcome_walk}
use Rattle.pc_window.specs.Hold.{HoldFor, TreeHolds}
use Rattle.pc_window.specs.WindowRun.{Window}
use Rattle.pc_window.specs.Tidying.{tidied, IsTidy}
use Rattle.pc_window.specs.Filled.{IsWindow, Jump, IsFirstJump, priority_of, Filled, MostBehind, front_size}
use Rattle.pc_window.specs.Ready.{HasFresh, ReadyPlace, BringsFrom, NotBehind}
use Rattle.pc_window.specs.Move.{Moves}
use Rattle.pc_window.specs.Kept.{Left, WalkIsKept, WindowKeeps, FillKeeps, CutKeeps, RowKeeps, IsRooted, OpensAlike, HasFront, HasItems}
use Rattle.pc_window.specs.There.{PartsAreThere, RowIsThere}
use Rattle.pc_window.specs.Steps.{opened_window, UnwindsTo, Tidies, Rebases, FillsTo, Cuts, front_row, Positive, IsProper, EachLeft}

-- ---- opening

-- from every state an opened window does what its region does and is not behind it, and its forms hold
abbrev pub OpenedWindowsRunAsTheirRegion : Type 0
OpenedWindowsRunAsTheirRegion = (table : Table) → TableKeeps table → (limits : Limits) (region : ℕ) (s : State) → OpensAlike table region (opened_window table limits region) s

-- where it is a stub once it is tidied, its region's tree leads there without a test
abbrev pub BareWindowsAreUntested : Type 0
BareWindowsAreUntested = (table : Table) (limits : Limits) (region to tag : ℕ) (homes : List Home) (w : Window)
    → Tidies (opened_window table limits region) w → whole w.front ≡ Exit to tag homes → untested (region_tree table region) ≡ Some to

-- an opened window is proper, where its limits leave room
abbrev pub OpenedWindowsAreProper : Type 0
OpenedWindowsAreProper = (table : Table) (limits : Limits) (region : ℕ) → Positive limits → IsProper (opened_window table limits region)

-- ---- unwinding, tidying, rebasing

-- unwinding keeps a proper window proper, its run, its pace and its forms
abbrev pub UnwindingKeeps : Type 0
UnwindingKeeps = (table : Table) → TableKeeps table → (number : ℕ) (w v : Window) → UnwindsTo table number w v → IsProper w → IsProper v × WindowKeeps table w v

-- and leads to one window
abbrev pub UnwindingHasOneEnd : Type 0
UnwindingHasOneEnd = (table : Table) (number : ℕ) (w a b : Window) → UnwindsTo table number w a → UnwindsTo table number w b → a ≡ b

-- tidying keeps a proper window proper, its run, its pace and its forms
abbrev pub TidyingKeeps : Type 0
TidyingKeeps = (table : Table) (w v : Window) → Tidies w v → IsProper w → IsProper v × WindowKeeps table w v

-- on each state on which the walk itself is no fault it keeps the walk
abbrev pub TidyingKeepsTheWalk : Type 0
TidyingKeepsTheWalk = (w v : Window) → Tidies w v → WalkIsKept w v

-- a tidied tree has nothing that may go
abbrev pub TidiedTreesAreTidy : Type 0
TidiedTreesAreTidy = (tree : Tree) → IsTidy (tidied tree)

-- a tidied window has its first item or test, if there is one, in its front
abbrev pub TidiedWindowsAreRooted : Type 0
TidiedWindowsAreRooted = (w v : Window) → Tidies w v → IsRooted v.front

-- rebasing keeps a proper window proper, its run, its pace and its forms
abbrev pub RebasingKeeps : Type 0
RebasingKeeps = (table : Table) (w v : Window) → Rebases w v → IsProper w → IsProper v × WindowKeeps table w v

-- ---- filling

-- filling keeps a proper window proper, what it does, its pace where fronts cost nothing, and its forms
abbrev pub FillingKeeps : Type 0
FillingKeeps = (table : Table) (w v : Window) → FillsTo w v → IsProper w → IsProper v × FillKeeps table w v

-- on each state on which the walk itself is no fault it keeps the walk
abbrev pub FillingKeepsTheWalk : Type 0
FillingKeepsTheWalk = (w v : Window) → FillsTo w v → IsProper w → WalkIsKept w v

-- it leads to one window
abbrev pub FillingHasOneEnd : Type 0
FillingHasOneEnd = (w a b : Window) → FillsTo w a → FillsTo w b → a ≡ b

-- a front that has an item or test keeps one
abbrev pub FilledFrontsHaveItems : Type 0
FilledFrontsHaveItems = (w v : Window) → FillsTo w v → HasFront w.front → HasFront v.front

-- each jump makes the front greater by one, and so there are no more jumps than the limits leave room for
abbrev pub JumpsFillTheFront : Type 0
JumpsFillTheFront = (known : ℕ → Bool) (w v : Window) → Jump known w v → front_size v.front ≡ suc (front_size w.front)

-- filling leaves below each leaf no more than stood below one
abbrev pub FillingIsBounded : Type 0
FillingIsBounded = (known : ℕ → Bool) (w v : Window) → Filled known w v → (n : ℕ) → MostBehind n w.front → MostBehind n v.front

-- ---- rows

-- the row of a front does at once what its path does in order, and leads on to the tree behind the leaf that is taken
abbrev pub RowsDoWhatTheirPathsDo : Type 0
RowsDoWhatTheirPathsDo = (lengths : List ℕ) (w : Window) (s : State) → IsProper w → TreeHolds w.forms lengths (whole w.front) s → IsWhole (walk lengths (whole w.front) s)
    → outcome_walk lengths (row_step lengths (front_row (λ tree. tree) w.front) s) ≡ walk lengths (whole w.front) s

-- each window that is left where the front of a proper window is cut is proper
abbrev pub CutPartsAreProper : Type 0
CutPartsAreProper = (table : Table) (w : Window) (row : Row Left) → Cuts table w row → IsProper w → EachLeft IsProper row

-- what the row of a proper window prints and what is left at its leaf are the run of the front and of what stands behind it
abbrev pub CutsKeep : Type 0
CutsKeep = (table : Table) (w : Window) (row : Row Left) → Cuts table w row → IsProper w → CutKeeps table w row

-- the row of a front that has an item or test has one
abbrev pub CutRowsHaveItems : Type 0
CutRowsHaveItems = (table : Table) (w : Window) (row : Row Left) → Cuts table w row → HasFront w.front → HasItems row

-- the row of a window that was filled prints, and what is left at its leaf goes on, as the window before did, and is a unit ahead
abbrev pub FilledRowsKeep : Type 0
FilledRowsKeep = (table : Table) (w v : Window) (row : Row Left) → IsRooted w.front → FillsTo w v → Cuts table v row → IsProper w → RowKeeps table w row

-- a row keeps the machine's rules for rows: the limits over the whole tree, and on each path no name is written twice and at
-- most one item is a print, read or more
pub record IsLegal (w : Window) (row : Row Left) : Type 0 where
  pub items : length (items_of row) ≤ w.limits.ops
  pub tests : length (tests_of row) ≤ w.limits.tests
  pub memory : count_by is_memory (items_of row) ≤ w.limits.mem
  pub once : AllByRecursion (λ path. IsDistinct nat_eq (filter_map dest_of path)) (paths_of row)
  pub one_effect : AllByRecursion (λ path. count_by is_effect path ≤ 1) (paths_of row)

-- the row of a proper window is legal
abbrev pub RowsAreLegal : Type 0
RowsAreLegal = (table : Table) (w : Window) (row : Row Left) → Cuts table w row → IsProper w → IsLegal w row

-- ---- what a window names is there

-- an opened window names what is there, at tags of at most 1
abbrev pub OpenedPartsAreThere : Type 0
OpenedPartsAreThere = (table : Table) → TableKeeps table → (limits : Limits) (region : ℕ) → PartsAreThere table 1 (whole (opened_window table limits region).front)

-- and its parameters are variables that are live at the region's head
abbrev pub OpenedParametersAreLive : Type 0
OpenedParametersAreLive = (table : Table) → TableKeeps table → (limits : Limits) (region x : ℕ)
    → uses (whole (opened_window table limits region).front) x ≡ true → list_any (nat_eq x) (region_live table region) ≡ true

-- what a window names stays there, and its tags as low, where it is tidied, rebased or filled
abbrev pub TidiedPartsAreThere : Type 0
TidiedPartsAreThere = (table : Table) (most : ℕ) (w v : Window) → Tidies w v → PartsAreThere table most (whole w.front) → PartsAreThere table most (whole v.front)

abbrev pub RebasedPartsAreThere : Type 0
RebasedPartsAreThere = (table : Table) (most : ℕ) (w v : Window) → Rebases w v → PartsAreThere table most (whole w.front) → PartsAreThere table most (whole v.front)

abbrev pub FilledPartsAreThere : Type 0
FilledPartsAreThere = (table : Table) (most : ℕ) (w v : Window) → FillsTo w v → PartsAreThere table most (whole w.front) → PartsAreThere table most (whole v.front)

-- so is what the row names of a front that is cut, and what is left at its leaves
abbrev pub CutPartsAreThere : Type 0
CutPartsAreThere = (table : Table) (most : ℕ) (w : Window) (row : Row Left) → Cuts table w row → PartsAreThere table most (whole w.front) → RowIsThere table most row

-- a parameter of a tidied window was one before
abbrev pub TidyingAddsNoParameter : Type 0
TidyingAddsNoParameter = (w v : Window) → Tidies w v → (x : ℕ) → uses (whole v.front) x ≡ true → uses (whole w.front) x ≡ true

-- ---- what is ready, and moves

-- in a proper window, of which the parameters are known, names and form variables are left that are new
abbrev pub ProperWindowsHaveFreshNames : Type 0
ProperWindowsHaveFreshNames = (w : Window) → IsProper w → HasFresh (uses (whole w.front)) w

-- what is ready and has room can jump
abbrev pub ReadyJumps : Type 0
ReadyJumps = (known : ℕ → Bool) (w : Window) → IsWindow known w → HasFresh known w → (r : ReadyPlace known w) → (v : Window) × (jump : Jump known w v) × BringsFrom jump r

-- what jumps was ready there and had room
abbrev pub JumpsWereReady : Type 0
JumpsWereReady = (known : ℕ → Bool) (w v : Window) (jump : Jump known w v) → (r : ReadyPlace known w) × BringsFrom jump r

-- the first jump brings what is first in the order of all that is ready and has room
abbrev pub FirstJumpsAreFirst : Type 0
FirstJumpsAreFirst = (known : ℕ → Bool) (w v : Window) → IsWindow known w → HasFresh known w → (jump : Jump known w v) → IsFirstJump known w v jump
    → (r : ReadyPlace known w) → NotBehind (priority_of jump.enters).0 (priority_of jump.enters).1 (priority_of jump.enters).2 r.tag r.origin r.place

-- a move anywhere in a window keeps the walk and forms, and names
abbrev pub MovesKeep : Type 0
MovesKeep = (forms forms' : ℕ → Form) (new : Option ℕ) (known : ℕ → Bool) (from to : Tree)
    → Moves forms forms' new known from to → IsNew known new → Scoped known from
    → Scoped known to × ((lengths : List ℕ) (σ : ℕ → ℤ) (s : State) → HoldFor known σ forms lengths from s → IsWhole (walk lengths from s)
    → (walk lengths to s ≡ walk lengths from s) × (values : ℕ → ℤ) × HoldFor known values forms' lengths to s)
