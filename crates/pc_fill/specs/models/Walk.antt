-- The walk through a window that looks for the first ready item or test.
use Rattle.std.specs.Prelude.{◌≡◌, ◌↔◌, ℕ, suc, ◌+◌, ◌<◌, Bool, true, List, ◌++◌, Option, Some, None, slice_get}
use Rattle.std.specs.List.{AllByRecursion}
use Rattle.pc_word.specs.declared.item.Item.{Item}
use Rattle.pc_word.specs.declared.item.Operand.{Operand}
use Rattle.pc_linear.specs.Form.{Form}
use Rattle.pc_window.specs.StoredWindow.{tree_in, front_in, forms_in, window_in}
use Rattle.pc_window.specs.Tree.{Tree, Front, tree_size}
use Rattle.pc_window.specs.Names.{IsKnown}
use Rattle.pc_window.specs.WindowRun.{Window}
use Rattle.pc_window.specs.Ready.{ReadyPlace}
use Rattle.pc_fill.specs.declared.walk.Found.{Found}
use Rattle.pc_fill.specs.declared.first.ReadyNode.{ReadyNode}
use Rattle.pc_fill.specs.FirstReady.{IsFirstReady}
use Rattle.pc_fill.specs.declared.walk.Setting.{Setting}
use Rattle.pc_fill.specs.declared.walk.Search.{Search}
use Rattle.pc_fill.specs.declared.path.Path.{Path}
use Rattle.pc_fill.specs.models.Path.{MayComeAlong, sides_of, LeadsOn}
use Rattle.pc_fill.specs.models.Places.{Node, nodes_of, known_in, MayRise, MayComeFrom}
use Rattle.pc_fill.specs.models.Search.{AreCounts, HasRoom, StandsAt, BestBefore}
use Rattle.pc_fill.specs.models.TagOrder.{TagsInOrder, TagsInOrderBehind}
use Rattle.pc_fill.specs.models.Way.{Leads, Reaches}

-- ---- the window that is looked through

abbrev pub all_in : Setting → Tree
all_in s = tree_in s.window.now.tree

abbrev pub forms_of : Setting → ℕ → Form
forms_of s = forms_in s.window.now.names.forms

-- from a place of it an item, or a test, may come into the front
abbrev pub MayComeHere : Setting → Option Item → ℕ → Type 0
MayComeHere s what place = MayComeFrom (forms_of s) what (front_in s.window.now.tree) place

-- the counts are those of its front; where tags are said never to fall behind it, they do not
pub record IsSetting (s : Setting) : Type 0 where
  pub counts : AreCounts s.counts (front_in s.window.now.tree)
  pub in_order : s.in_order ≡ true → TagsInOrderBehind (front_in s.window.now.tree)

-- ---- what was found

-- what was found, at a place
abbrev pub found_at : Found → ℕ → ReadyNode
found_at it place = record { tag = it.tag; origin = it.origin; place = place; item = it.item }

-- the same, if anything was found
abbrev pub placed : Option Found → ℕ → Option ReadyNode
placed (Some it) place = Some (found_at it place)
placed None place = None

-- a way leads to what was found
abbrev pub LeadsToFound : Front → Option Found → List Bool → ℕ → Type 0
LeadsToFound front (Some it) way place = Reaches front way it.depth place
LeadsToFound front None way place = Unit {0}

-- what was found is the first of what was looked at, before a place
pub record BestSoFar (s : Setting) (place : ℕ) (search : Search) : Type 0 where
  pub at : ℕ
  pub best : BestBefore (known_in s.known.now) (window_in s.window.now) place (placed search.best at)
  pub way : LeadsToFound (front_in s.window.now.tree) search.best search.way.items at

-- a way leads to what was found, and it is the first of all; or nothing is ready
abbrev pub FindsFirst : (known : ℕ → Bool) → Window → Option Found → List Bool → Type 0
FindsFirst known w (Some it) way = (place : ℕ) × Reaches w.front way it.depth place × IsFirstReady known w (found_at it place)
FindsFirst known w None way = ReadyPlace known w → ⊥

-- ---- where a path leads

-- what reads these operands is ready and has room where a path leads to it
pub record IsReadyThere (s : Setting) (path : Path) (what : Option Item) (operands : List Operand) : Type 0 where
  pub reads : AllByRecursion (IsKnown (known_in s.known.now)) operands
  pub room : HasRoom s.window.now.limits what s.counts
  pub way : MayComeAlong (forms_of s) path what

-- a path leads to an item or test at a place, below so many items
pub record StandsThere (s : Setting) (path : Path) (depth place : ℕ) (node : Node) : Type 0 where
  pub at : slice_get (nodes_of (all_in s)) place ≡ Some node
  pub way : MayComeHere s node.what place ↔ MayComeAlong (forms_of s) path node.what
  pub leads : Reaches (front_in s.window.now.tree) (sides_of path) depth place

-- a path leads to a tree behind the front, which stands from a place on, below so many items
pub record ComesBehind (s : Setting) (path : Path) (depth place : ℕ) (tree : Tree) : Type 0 where
  pub stands : StandsAt tree place (all_in s)
  pub way : (what : Option Item) (k : ℕ) → k < tree_size tree → MayComeHere s what (place + k) ↔ (MayComeAlong (forms_of s) path what × MayRise (forms_of s) what tree k)
  pub leads : (sides : List Bool) (d k : ℕ) → Leads tree sides d k → Reaches (front_in s.window.now.tree) (sides_of path ++ sides) (depth + d) (place + k)
  pub in_order : s.in_order ≡ true → TagsInOrder 0 tree

-- a path leads to a part of the front and what stands behind it, from a place on
pub record ComesInFront (s : Setting) (path : Path) (place : ℕ) (tree : Tree) (front : Front) : Type 0 where
  pub stands : StandsAt tree place (all_in s)
  pub way : (what : Option Item) (k : ℕ) → k < tree_size tree → MayComeHere s what (place + k) ↔ (MayComeAlong (forms_of s) path what × MayComeFrom (forms_of s) what front k)
  pub leads : (sides : List Bool) (d k : ℕ) → Reaches front sides d k → Reaches (front_in s.window.now.tree) (sides_of path ++ sides) d (place + k)
  pub in_order : s.in_order ≡ true → TagsInOrderBehind front

-- ---- looking

-- an item or test was looked at
pub record LooksAt (s : Setting) (path : Path) (depth : ℕ) (node : Node) (before after : Search) : Type 0 where
  pub on : IsSetting s → (place : ℕ) → StandsThere s path depth place node → BestSoFar s place before → BestSoFar s (suc place) after

-- a tree behind the front was looked at
pub record LooksBehind (s : Setting) (path : Path) (depth : ℕ) (tree : Tree) (before after : Search) : Type 0 where
  pub on : IsSetting s → (place : ℕ) → ComesBehind s path depth place tree → BestSoFar s place before → BestSoFar s (place + tree_size tree) after

-- the same below an item or on a side of a test, past which it may come so, and where these sides are taken
pub record LooksBelow (s : Setting) (path : Path) (May : Option Item → Type 0) (turns : List Bool) (depth : ℕ) (tree : Tree) (before after : Search) : Type 0 where
  pub below : Path
  pub leads : LeadsOn (forms_of s) May path below
  pub sides : sides_of below ≡ sides_of path ++ turns
  pub looks : LooksBehind s below depth tree before after

-- a part of the front was gone through, and what stands behind it looked at
pub record LooksThrough (s : Setting) (path : Path) (tree : Tree) (front : Front) (before after : Search) : Type 0 where
  pub on : IsSetting s → (place : ℕ) → ComesInFront s path place tree front → BestSoFar s place before → BestSoFar s (place + tree_size tree) after
