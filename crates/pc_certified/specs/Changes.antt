-- The changes by which a claim's window is brought to its row: it is rebased, unwound or tidied, an item or test is moved, a stub is
-- opened, a home gets a name, or the front ends elsewhere.
use Rattle.std.specs.Prelude.{◌≡◌, ℕ, Bool, Option, List}
use Rattle.pc_word.specs.declared.item.Item.{Item}
use Rattle.pc_linear.specs.Form.{Form}
use Rattle.pc_table.specs.Table.{Table, region_tree}
use Rattle.pc_window.specs.declared.home.Home.{Home}
use Rattle.pc_window.specs.Tree.{Tree, Exit, Front, whole, home_of}
use Rattle.pc_window.specs.Names.{uses, IsNew}
use Rattle.pc_window.specs.Jump.{EntersFront, Lands, Lands_renamed, Lands_test, Lands_once, Behind_item, On_yes, On_no}
use Rattle.pc_window.specs.Move.{Moves, Into_node, Deletes, Below, On_yes_side, On_no_side}
use Rattle.pc_window.specs.Opening.{Supply, graft}
use Rattle.pc_window.specs.WindowRun.{Window, supply_of}
use Rattle.pc_window.specs.Steps.{window_of, UnwindsTo, Tidies, Rebases, IsProper}
use Rattle.pc_certified.specs.Somewhere.{Somewhere}
use Rattle.pc_certified.specs.Copies.{AddsCopy, UsesCopy}

-- ---- moves

-- where two items become one in a front, they have the same tag
abbrev pub EntersWithSameTags : {known : ℕ → Bool} {forms forms' : ℕ → Form} {new : Option ℕ} {comes : Option Item} {from to : Front}
    → EntersFront known forms forms' new comes from to → Type 0
EntersWithSameTags (Lands tag origin x from left reads isnew none same rises) = Unit {0}
EntersWithSameTags (Lands_renamed tag origin name stood from left reads isnew is gives rises) = Unit {0}
EntersWithSameTags (Lands_test tag origin on from on_yes on_no reads none same divides) = Unit {0}
EntersWithSameTags (Lands_once t o on tag origin tag' origin' name stood other crosses crosses' on_yes on_no yes_left no_left equal reads isnew is gives rises rises') = tag' ≡ tag
EntersWithSameTags (Behind_item t o y comes rest rest' may apart enters) = EntersWithSameTags enters
EntersWithSameTags (On_yes t o on comes on_yes on_no on_yes' apart enters) = EntersWithSameTags enters
EntersWithSameTags (On_no t o on comes on_yes on_no on_no' apart enters) = EntersWithSameTags enters

-- the same of a move anywhere
abbrev pub MovesWithSameTags : {forms forms' : ℕ → Form} {new : Option ℕ} {known : ℕ → Bool} {from to : Tree} → Moves forms forms' new known from to → Type 0
MovesWithSameTags (Into_node known comes from to enters) = EntersWithSameTags enters
MovesWithSameTags (Deletes known tag origin x rest is unused none same) = Unit {0}
MovesWithSameTags (Below known t o y rest rest' apart moves) = MovesWithSameTags moves
MovesWithSameTags (On_yes_side known t o on on_yes on_no on_yes' apart moves) = MovesWithSameTags moves
MovesWithSameTags (On_no_side known t o on on_yes on_no on_no' apart moves) = MovesWithSameTags moves

-- one legal move: an item or test comes up into any node, two items of one tag become one, or an item is deleted; what is left is a
-- proper window with the same limits and loop
pub record IsMoved (w v : Window) : Type 0 where
  pub new : Option ℕ
  pub moves : Moves w.forms v.forms new (uses (whole w.front)) (whole w.front) (whole v.front)
  pub tags : MovesWithSameTags moves
  pub is_new : IsNew (uses (whole w.front)) new
  pub proper : IsProper v
  pub limits : v.limits ≡ w.limits
  pub inside : v.inside ≡ w.inside

-- the front ends elsewhere over the same tree: it may be empty, and need not have the tree's root. The window's limits, its loop
-- and its next new numbers may be others: a row keeps limits of its own
pub record Regroups (w v : Window) : Type 0 where
  pub tree : whole v.front ≡ whole w.front
  pub forms : v.forms ≡ w.forms
  pub proper : IsProper v

-- ---- one stub

-- a stub becomes its region's tree, with its homes in place of variables, and tags as for this loop
pub data OpensHere (table : Table) (loop : Option ℕ) (names after : Supply) : Tree → Tree → Type 0 where
  the_stub : (region tag : ℕ) (homes : List Home) (tree : Tree) → (graft table loop tag (region_tree table region) names (home_of homes)).tree ≡ tree
      → (graft table loop tag (region_tree table region) names (home_of homes)).names ≡ after → OpensHere table loop names after (Exit region tag homes) tree

-- one stub, of any region, with any tag
pub record OpensStub (table : Table) (w v : Window) : Type 0 where
  pub loop : Option ℕ
  pub after : Supply
  pub tree : Tree
  pub opens : Somewhere (OpensHere table loop (supply_of w) after) (whole w.front) tree
  pub is : v ≡ window_of tree after w.limits w.inside

-- ---- changes

-- one change
pub data OneChange (table : Table) (w v : Window) : Type 0 where
  rebases : Rebases w v → OneChange table w v
  unwinds : (number : ℕ) → UnwindsTo table number w v → OneChange table w v
  tidies : Tidies w v → OneChange table w v
  moves : IsMoved w v → OneChange table w v
  regroups : Regroups w v → OneChange table w v
  opens : OpensStub table w v → OneChange table w v
  adds_copy : AddsCopy w v → OneChange table w v
  uses_copy : UsesCopy w v → OneChange table w v

-- changes one after another lead from one window to another
pub data ChangesTo (table : Table) : Window → Window → Type 0 where
  no_change : {w : Window} → ChangesTo table w w
  one_change : {w v u : Window} → OneChange table w v → ChangesTo table v u → ChangesTo table w u
