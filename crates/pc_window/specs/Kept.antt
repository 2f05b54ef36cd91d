-- What each change of a window keeps: its run, its forms, and its pace.
use Rattle.std.specs.Prelude.{◌≡◌, ℕ, suc, ℤ, List, []}
use Rattle.pc_word.specs.declared.item.TrapKind.{TrapKind}
use Rattle.pc_word.specs.declared.item.End.TheVariants.{Ended, Trapped}
use Rattle.pc_word.specs.Run.{Run, Answers, Follows, Agree, after_printing, ended_run, NeverFaults}
use Rattle.pc_word.specs.State.{State}
use Rattle.pc_table.specs.Table.{Table, Next}
use Rattle.pc_table.specs.RegionRun.{region_run}
use Rattle.pc_window.specs.declared.home.Home.{Home}
use Rattle.pc_window.specs.Tree.{Tree, Pending, Undecided, Exit, Stop_exit, Trap_exit, Front, Issued, Split, Unfinished, whole, home_state}
use Rattle.pc_window.specs.WindowRun.{Window, window_run, front_run, FormsHold}
use Rattle.pc_window.specs.Walk.{IsWhole, walk}
use Rattle.pc_window.specs.Hold.{TreeHolds}
use Rattle.pc_linear.specs.Form.{Form}
use Rattle.pc_word.specs.Row.{Row, Then, Either, At_leaf, RowOutcome, Faults, Commits, row_step}

-- what is left at a leaf of a front that is cut: a window, a region that is left for, the end, or a trap
pub data Left : Type 0 where
  Rest : (window : Window) → Left
  Gone : (region : ℕ) → (homes : List Home) → Left
  Finished : Left
  Trapped_at : (kind : TrapKind) → (line : ℕ) → Left

-- what is left goes on
abbrev pub left_run : Table → Left → State → Run
left_run table (Rest w) s = window_run table w s
left_run table (Gone region homes) s = region_run table (Next region) (home_state s homes)
left_run table Finished s = ended_run [] Ended
left_run table (Trapped_at kind line) s = ended_run [] (Trapped kind line)

-- after as many units, Y shows at least what X shows
abbrev pub KeepsPace : Run → Run → Type 0
KeepsPace X Y = (n : ℕ) → Answers (X n) (Y n) (X n).end

-- after one unit less, Y shows at least what X shows
abbrev pub GainsUnit : Run → Run → Type 0
GainsUnit X Y = (n : ℕ) → Answers (X (suc n)) (Y n) (X (suc n)).end

-- a window in place of another: its run agrees with the other's and is not behind it, and forms hold
pub record KeptIn (table : Table) (w v : Window) (s : State) : Type 0 where
  pub pace : KeepsPace (window_run table w s) (window_run table v s)
  pub back : Follows (window_run table v s) (window_run table w s)
  pub forms : FormsHold table v s

-- on each state where forms hold and the run never faults
abbrev pub WindowKeeps : Table → Window → Window → Type 0
WindowKeeps table w v = (s : State) → FormsHold table w s → NeverFaults (window_run table w s) → KeptIn table w v s

-- what was printed, and then the window that is left: its run agrees with the one before and is a unit ahead, and forms hold
pub record RestKept (table : Table) (w : Window) (s : State) (printed : List ℤ) (new : State) (rest : Window) : Type 0 where
  pub pace : GainsUnit (window_run table w s) (λ n. after_printing printed (window_run table rest new n))
  pub back : Follows (λ n. after_printing printed (window_run table rest new n)) (window_run table w s)
  pub forms : FormsHold table rest new

-- nothing is left to do in a window: no item and no test
abbrev pub IsBare : Tree → Type 0
IsBare (Pending tag origin item rest) = ⊥
IsBare (Undecided tag origin on on_yes on_no) = ⊥
IsBare (Exit region tag homes) = Unit {0}
IsBare Stop_exit = Unit {0}
IsBare (Trap_exit kind line) = Unit {0}

-- what was printed, and then what follows where no window is left: its run agrees with the one before and is not behind it,
-- and it is a unit ahead where the window had an item or test
pub record OutKept (table : Table) (w : Window) (s : State) (printed : List ℤ) (new : State) (left : Left) : Type 0 where
  pub pace : KeepsPace (window_run table w s) (λ n. after_printing printed (left_run table left new n))
  pub gains : (IsBare (whole w.front) → ⊥) → GainsUnit (window_run table w s) (λ n. after_printing printed (left_run table left new n))
  pub back : Follows (λ n. after_printing printed (left_run table left new n)) (window_run table w s)

-- what is left goes on as the window before did
abbrev pub LeftKept : Table → Window → State → List ℤ → State → Left → Type 0
LeftKept table w s printed new (Rest rest) = RestKept table w s printed new rest
LeftKept table w s printed new left = OutKept table w s printed new left

-- a row does not fault; what it prints and what is left at its leaf are the window's run
abbrev pub TakenKept : Table → Window → State → RowOutcome Left → Type 0
TakenKept table w s (Faults fault) = ⊥
TakenKept table w s (Commits printed new left) = LeftKept table w s printed new left

-- so does a row, on each state where forms hold and the run never faults
abbrev pub RowKeeps : Table → Window → Row Left → Type 0
RowKeeps table w row = (s : State) → FormsHold table w s → NeverFaults (window_run table w s) → TakenKept table w s (row_step table.arrays row s)

-- the front has the window's first item or test, if there is one
abbrev pub IsRooted : Front → Type 0
IsRooted (Issued tag origin item rest) = Unit {0}
IsRooted (Split tag origin on on_yes on_no) = Unit {0}
IsRooted (Unfinished rest) = IsBare rest

-- ---- the walk alone

-- from each state in which forms hold and the walk is no fault, a tree in place of another has the same walk, and its forms hold
abbrev pub KeepsWalk : (ℕ → Form) → Tree → (ℕ → Form) → Tree → Type 0
KeepsWalk forms from forms' to = (lengths : List ℕ) (s : State) → TreeHolds forms lengths from s → IsWhole (walk lengths from s)
    → (walk lengths to s ≡ walk lengths from s) × TreeHolds forms' lengths to s

-- so does a window in place of another
abbrev pub WalkIsKept : Window → Window → Type 0
WalkIsKept w v = KeepsWalk w.forms (whole w.front) v.forms (whole v.front)

-- ---- filling and cutting

-- a fuller front: what it does agrees with the window's run before, and is not behind it where fronts cost nothing; and forms hold
pub record FilledIn (table : Table) (w v : Window) (s : State) : Type 0 where
  pub pace : KeepsPace (front_run table w.front s) (front_run table v.front s)
  pub back : Follows (front_run table v.front s) (front_run table w.front s)
  pub forms : FormsHold table v s
  pub bare : IsBare (whole w.front) → IsBare (whole v.front)

-- so does filling, on each state where forms hold and the run never faults
abbrev pub FillKeeps : Table → Window → Window → Type 0
FillKeeps table w v = (s : State) → FormsHold table w s → NeverFaults (window_run table w s) → FilledIn table w v s

-- what is left where a front is cut: all that stands behind the leaf that is taken, and forms hold there
pub record RestCut (table : Table) (w : Window) (s : State) (printed : List ℤ) (new : State) (rest : Window) : Type 0 where
  pub same : (n : ℕ) → front_run table w.front s n ≡ after_printing printed (window_run table rest new n)
  pub forms : FormsHold table rest new
  pub items : IsBare (whole w.front) → ⊥

-- what follows where no window is left: its run agrees with that of the front and of what stands behind it, and is not behind it
pub record OutCut (table : Table) (w : Window) (s : State) (printed : List ℤ) (new : State) (left : Left) : Type 0 where
  pub pace : KeepsPace (front_run table w.front s) (λ n. after_printing printed (left_run table left new n))
  pub back : Follows (λ n. after_printing printed (left_run table left new n)) (front_run table w.front s)

-- what was printed, and what is left, are the run of the front and of what stands behind it
abbrev pub LeftCut : Table → Window → State → List ℤ → State → Left → Type 0
LeftCut table w s printed new (Rest rest) = RestCut table w s printed new rest
LeftCut table w s printed new left = OutCut table w s printed new left

-- the row of a front does not fault; what it prints and what is left at its leaf are the run of the front and of what stands behind it
abbrev pub TakenCut : Table → Window → State → RowOutcome Left → Type 0
TakenCut table w s (Faults fault) = ⊥
TakenCut table w s (Commits printed new left) = LeftCut table w s printed new left

-- so does the row of a cut, on each state where forms hold and the run never faults
abbrev pub CutKeeps : Table → Window → Row Left → Type 0
CutKeeps table w row = (s : State) → FormsHold table w s → NeverFaults (window_run table w s) → TakenCut table w s (row_step table.arrays row s)

-- ---- opening, and what begins with an item or a test

-- an opened window does what its region does and is not behind it, and its forms hold
pub record OpensAlike (table : Table) (region : ℕ) (w : Window) (s : State) : Type 0 where
  pub forms : FormsHold table w s
  pub agree : Agree (window_run table w s) (region_run table (Next region) s)
  pub pace : KeepsPace (region_run table (Next region) s) (window_run table w s)

-- the front has an item or a test, and so has a row
abbrev pub HasFront : Front → Type 0
HasFront (Issued tag origin item rest) = Unit {0}
HasFront (Split tag origin on on_yes on_no) = Unit {0}
HasFront (Unfinished rest) = ⊥

-- a row has an item or a test
abbrev pub HasItems : {L : Type 0} → Row L → Type 0
HasItems (Then item rest) = Unit {0}
HasItems (Either on on_yes on_no) = Unit {0}
HasItems (At_leaf leaf) = ⊥
