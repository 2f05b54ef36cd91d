-- One step as code does it, in a window in memory.
use Rattle.std.specs.Prelude.{◌≡◌, ℕ, Bool, true, false, List, Option, Some, None}
use Rattle.pc_table.specs.Table.{Table, region_tree}
use Rattle.pc_window.specs.declared.home.Home.{Home}
use Rattle.pc_window.specs.declared.names.NameTable.{NameTable}
use Rattle.pc_window.specs.declared.tree.WindowTree.{WindowTree}
use Rattle.pc_window.specs.declared.window.Window.{Window as StoredWindow}
use Rattle.pc_window.specs.Tree.{Tree, home_of}
use Rattle.pc_window.specs.Opening.{Grafted, graft}
use Rattle.pc_window.specs.WindowRun.{Window}
use Rattle.pc_window.specs.StoredWindow.{tree_in, supply_in, window_in, InNodes, NodesBehind}
use Rattle.pc_cert.specs.declared.certificate.Step.{Step}
use Rattle.pc_arranging.specs.Stubs.{loop_within, may_open}
use Rattle.pc_arranging.specs.Arranging.{Does, IsStepped, AreDone}
use Rattle.pc_arranging.specs.CanArrange.{IsArrangedIn}

-- ---- trees that are changed in place

-- a tree with names, or a tree, where it was made
abbrev pub made_if : Bool → Grafted → Option Grafted
made_if true made = Some made
made_if false made = None

abbrev pub tree_if : Bool → Tree → Option Tree
tree_if true made = Some made
tree_if false made = None

-- the tree in place of a stub, or none, where it may not be opened
abbrev pub OpensTo : Table → (enters : Bool) → Option ℕ → (region tag : ℕ) → List Home → (old new : NameTable) → Option WindowTree → Type 0
OpensTo table enters inside region tag homes old new None = may_open table enters inside region tag ≡ false
OpensTo table enters inside region tag homes old new (Some tree) =
    (may_open table enters inside region tag ≡ true) × InNodes true tree
    × ((let it : Grafted = record { tree = tree_in tree; names = supply_in new } in it)
    ≡ graft table (loop_within table enters inside region) tag (region_tree table region) (supply_in old) (home_of homes))

-- ---- windows

-- the window that a step makes, or none, where it is not legal
abbrev pub DoesOrNot : Table → Step → Window → Option StoredWindow → Type 0
DoesOrNot table step w (Some later) = Does table step w (window_in later) × NodesBehind later.tree
DoesOrNot table step w None = (v : Window) → Does table step w v → ⊥

-- the same where it may not be too large either
abbrev pub StepsOrNot : Table → Step → StoredWindow → Option StoredWindow → Type 0
StepsOrNot table step w (Some later) = IsStepped table step (window_in w) (window_in later) × IsArrangedIn table later
StepsOrNot table step w None = (v : Window) → IsStepped table step (window_in w) v → ⊥

-- what steps make of a window is what other steps make of another
pub record GoesOn (table : Table) (steps : List Step) (w : Window) (rest : List Step) (now : Window) : Type 0 where
  pub on : (v : Window) → AreDone table rest now v → AreDone table steps w v
  pub back : (v : Window) → AreDone table steps w v → AreDone table rest now v
