-- Region tables as plain data, without the pointers that hold a tree together in memory.
use Rattle.std.specs.Prelude.{ℕ, List, [], map, Option, Some, None, slice_get}
use Rattle.pc_word.specs.declared.item.Item.{Item}
use Rattle.pc_word.specs.declared.item.Operand.{Operand}
use Rattle.pc_word.specs.declared.item.TrapKind.{TrapKind}
use Rattle.pc_word.specs.declared.loop_mark.LoopMark.{LoopMark}
use Rattle.pc_table.specs.declared.tree.RegionTree.{RegionTree}
use Rattle.pc_table.specs.declared.tree.RegionTree.TheVariants as tree
use Rattle.pc_table.specs.declared.table.Region.{Region}

-- a region's tree: an item before the rest, a test between two sides, the region that comes next, the end, or a trap
pub data TableTree : Type 0 where
  Does : (origin : ℕ) → (item : Item) → (rest : TableTree) → TableTree
  Asks : (origin : ℕ) → (on : Operand) → (on_yes : TableTree) → (on_no : TableTree) → TableTree
  Next : (region : ℕ) → TableTree
  Stops_here : TableTree
  Traps_here : (kind : TrapKind) → (line : ℕ) → TableTree
  deriving IsSet as TableTree-set

-- a region: the graph's node at its head, its tree, the variables live at its head, the innermost loop that the head
-- stands in, and the loop whose header the head is
pub record TableRegion : Type 0 where
  pub head : ℕ
  pub tree : TableTree
  pub live : List ℕ
  pub inside : Option ℕ
  pub heads : Option ℕ

-- a table: its regions by number, the loops of the graph, and the lengths of the arrays
pub record Table : Type 0 where
  pub regions : List TableRegion
  pub loops : List LoopMark
  pub arrays : List ℕ

-- ---- the parts of a region that may not be there

abbrev pub tree_of : Option TableRegion → TableTree
tree_of None = Stops_here
tree_of (Some region) = region.tree

abbrev pub live_of : Option TableRegion → List ℕ
live_of None = []
live_of (Some region) = region.live

-- the tree of a region by its number
abbrev pub region_tree : Table → ℕ → TableTree
region_tree table region = tree_of (slice_get table.regions region)

-- and the variables that are live at its head
abbrev pub region_live : Table → ℕ → List ℕ
region_live table region = live_of (slice_get table.regions region)

-- ---- regions in memory

-- the tree that a tree in memory is
abbrev pub table_tree : RegionTree → TableTree
table_tree (tree.Step' origin item p next) = Does origin item (table_tree next)
table_tree (tree.Test' origin on p on_yes q on_no) = Asks origin on (table_tree on_yes) (table_tree on_no)
table_tree (tree.Next region) = Next region
table_tree tree.Stop = Stops_here
table_tree (tree.Trap kind line) = Traps_here kind line

-- the region that a region in memory is
abbrev pub table_region : Region → TableRegion
table_region region = record {
  head = region.head;
  tree = table_tree region.tree;
  live = region.live;
  inside = region.inside;
  heads = region.heads;
}

-- the regions of a list
abbrev pub table_regions : List Region → List TableRegion
table_regions regions = map table_region regions
