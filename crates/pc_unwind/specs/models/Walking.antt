-- One walk of a tree, which unwinds all stubs of one tag.
use Rattle.std.specs.Prelude.{◌≡◌, ℕ, suc, ◌+◌, ◌<◌, ◌≤◌, ◌-◌, ◌^◌, Bool, true, false, List, length, Option, Some, None}
use Rattle.pc_word.specs.SourceLimits.{most_nodes}
use Rattle.pc_table.specs.Table.{TableTree, Does, Asks, Next, Stops_here, Traps_here, Table, region_tree}
use Rattle.pc_word.specs.declared.item.Item.TheVariants.{Bin, Copy, Load, Store, Print, Read, More}
use Rattle.pc_window.specs.declared.home.Home.{Home}
use Rattle.pc_window.specs.declared.tree.WindowTree.{WindowTree}
use Rattle.pc_window.specs.declared.tree.WindowTree.TheVariants as stored
use Rattle.pc_window.specs.Tree.{Tree, Pending, Undecided, Exit, Stop_exit, Trap_exit, tree_size, home_of}
use Rattle.pc_window.specs.Opening.{Supply, Grafted, graft, unwound_at}
use Rattle.pc_window.specs.Unwinding.{most_unwound}
use Rattle.pc_window.specs.StoredWindow.{tree_in, supply_in, InNodes}
use Rattle.pc_window.specs.models.Ranks.{rank}
use Rattle.pc_unwind.specs.declared.growth.Growth.{Growth}

-- items and tests that a region's tree brings: a copy brings none
abbrev pub brought_size : TableTree → ℕ
brought_size (Does origin (Bin op dest left right) rest) = suc (brought_size rest)
brought_size (Does origin (Copy dest from) rest) = brought_size rest
brought_size (Does origin (Load dest array index) rest) = suc (brought_size rest)
brought_size (Does origin (Store array index value) rest) = suc (brought_size rest)
brought_size (Does origin (Print value) rest) = suc (brought_size rest)
brought_size (Does origin (Read dest) rest) = suc (brought_size rest)
brought_size (Does origin (More dest) rest) = suc (brought_size rest)
brought_size (Asks origin on on_yes on_no) = suc (brought_size on_yes + brought_size on_no)
brought_size (Next region) = 0
brought_size Stops_here = 0
brought_size (Traps_here kind line) = 0

-- a tree and the names that there are
abbrev pub with_growth : Tree → Growth → Grafted
with_growth tree growth = record { tree = tree; names = supply_in growth.names }

-- there is room for names and form variables
pub record HasRoom (growth : Growth) : Type 0 where
  pub size : growth.size ≤ 2 ^ 20
  pub names : length growth.names.forms ≤ 2 ^ 30 + growth.size
  pub variables : growth.names.next_variable ≤ 2 ^ 30 + growth.size

-- ---- one stub

-- a stub's region as a tree in place of the stub
abbrev pub replacement : Table → Option ℕ → ℕ → ℕ → List Home → Supply → Grafted
replacement table loop tag region homes names = graft table loop tag (region_tree table region) names (home_of homes)

-- the tree in place of a stub: it is not too large
pub record Replaces (table : Table) (loop : Option ℕ) (tag region : ℕ) (homes : List Home) (old new : Growth) (tree : WindowTree) : Type 0 where
  pub grafts : with_growth (tree_in tree) new ≡ replacement table loop tag region homes (supply_in old.names)
  pub nodes : InNodes true tree
  pub size : new.size ≡ old.size + tree_size (tree_in tree)
  pub within : new.size ≤ most_unwound

-- the tree in place of a stub, where it is not too large
abbrev pub MayReplace : Table → Option ℕ → ℕ → ℕ → List Home → (old new : Growth) → Option WindowTree → Type 0
MayReplace table loop tag region homes old new (Some tree) = Replaces table loop tag region homes old new tree
MayReplace table loop tag region homes old new None = (new ≡ old) × (most_unwound < old.size + tree_size (replacement table loop tag region homes (supply_in old.names)).tree)

-- whether a tree in memory is a stub
abbrev pub is_stub : WindowTree → Bool
is_stub (stored.Step' tag origin item p rest) = false
is_stub (stored.Test' tag origin on p on_yes q on_no) = false
is_stub (stored.Node' p below) = false
is_stub (stored.Exit region tag homes) = true
is_stub stored.Stop = false
is_stub (stored.Trap kind line) = false

-- the highest tag with which a stub may be replaced
abbrev pub most_stub_tag : ℕ
most_stub_tag = 2 ^ 31 - 1

-- a stub was replaced by its region's tree, which stands at the root of a node, or else below an item or test
pub record ReplacesStub (table : Table) (loop : Option ℕ) (at_root : Bool) (tag region : ℕ) (homes : List Home) (old : Growth) (after : WindowTree) (new : Growth) : Type 0 where
  pub tree : WindowTree
  pub replaces : Replaces table loop tag region homes old new tree
  pub same : tree_in after ≡ tree_in tree
  pub nodes : InNodes at_root after

-- a stub whose region's tree came in its place, or that stays since the window would be too large
abbrev pub MayReplaceStub : Table → Option ℕ → (at_root : Bool) → (before : WindowTree) → (old : Growth) → (after : WindowTree) → (new : Growth) → (replaced : Bool) → Type 0
MayReplaceStub table loop at_root (stored.Exit region tag homes) old after new true = ReplacesStub table loop at_root tag region homes old after new
MayReplaceStub table loop at_root (stored.Exit region tag homes) old after new false = MayReplace table loop tag region homes old new None × (after ≡ stored.Exit region tag homes)
MayReplaceStub table loop at_root (stored.Step' tag origin item p rest) old after new replaced = ⊥
MayReplaceStub table loop at_root (stored.Test' tag origin on p on_yes q on_no) old after new replaced = ⊥
MayReplaceStub table loop at_root (stored.Node' p below) old after new replaced = ⊥
MayReplaceStub table loop at_root stored.Stop old after new replaced = ⊥
MayReplaceStub table loop at_root (stored.Trap kind line) old after new replaced = ⊥

-- ---- all stubs of a tag

-- stubs inside the loop that have this tag are replaced, each time the first in preorder, so that the items and tests, with those elsewhere,
-- are never more than the most
pub data Replacements (table : Table) (loop : Option ℕ) (tag elsewhere : ℕ) : Grafted → Grafted → Type 0 where
  replaces_no_more : (g : Grafted) → Replacements table loop tag elsewhere g g
  replaces_once : (g h k : Grafted) → unwound_at table loop tag g.names g.tree ≡ Some h → elsewhere + tree_size h.tree ≤ most_unwound
      → Replacements table loop tag elsewhere h k → Replacements table loop tag elsewhere g k

-- the next replacement would be too large
pub record IsFull (table : Table) (loop : Option ℕ) (tag elsewhere : ℕ) (g : Grafted) : Type 0 where
  pub too_large : Grafted
  pub next : unwound_at table loop tag g.names g.tree ≡ Some too_large
  pub above : most_unwound < elsewhere + tree_size too_large.tree

-- no such stub is left, or the next replacement would be too large
abbrev pub EndsReplacements : Table → Option ℕ → ℕ → ℕ → (full : Bool) → Grafted → Type 0
EndsReplacements table loop tag elsewhere true g = IsFull table loop tag elsewhere g
EndsReplacements table loop tag elsewhere false g = unwound_at table loop tag g.names g.tree ≡ None

-- a whole walk, with so many items and tests elsewhere
pub record WalksFrom (table : Table) (loop : Option ℕ) (tag elsewhere : ℕ) (full : Bool) (before : Tree) (old : Growth) (after : Tree) (new : Growth) : Type 0 where
  pub replacements : Replacements table loop tag elsewhere (with_growth before old) (with_growth after new)
  pub ends : EndsReplacements table loop tag elsewhere full (with_growth after new)
  pub size : new.size ≡ elsewhere + tree_size after

-- a walk of a part of a window: of the items and tests that there are, those of the part stand here, and the others elsewhere
abbrev pub Walks : Table → Option ℕ → ℕ → (before : Tree) → (old : Growth) → (after : Tree) → (new : Growth) → (full : Bool) → Type 0
Walks table loop tag before old after new full =
    (elsewhere : ℕ) → old.size ≡ elsewhere + tree_size before → WalksFrom table loop tag elsewhere full before old after new

-- ---- tags that may come

-- the highest tag that the first item or test of a window may come to have
abbrev pub most_root_tag : ℕ
most_root_tag = 2 ^ 30 + most_nodes

-- the first item or test has at most this tag
abbrev pub RootAtMost : ℕ → Tree → Type 0
RootAtMost most (Pending tag origin item rest) = tag ≤ most
RootAtMost most (Undecided tag origin on on_yes on_no) = tag ≤ most
RootAtMost most (Exit region tag homes) = ⊥
RootAtMost most Stop_exit = ⊥
RootAtMost most (Trap_exit kind line) = ⊥

-- or will have it, once there is one: a tag rises at most once a region
abbrev pub RootStaysAtMost : Table → ℕ → Tree → Type 0
RootStaysAtMost table most (Pending tag origin item rest) = tag ≤ most
RootStaysAtMost table most (Undecided tag origin on on_yes on_no) = tag ≤ most
RootStaysAtMost table most (Exit region tag homes) = tag + rank table region ≤ most
RootStaysAtMost table most Stop_exit = Unit {0}
RootStaysAtMost table most (Trap_exit kind line) = Unit {0}

-- a tag is not above the least one of those, if any
abbrev pub AtMostLeast : ℕ → Option ℕ → Type 0
AtMostLeast tag None = Unit {0}
AtMostLeast tag (Some least) = tag ≤ least

-- how many tags there are from one on, and none where there is no such tag
abbrev pub tags_from : Option ℕ → ℕ
tags_from None = 0
tags_from (Some tag) = 2 ^ 31 - tag
