-- How far a search for the first ready item or test has come.
use Rattle.std.specs.Prelude.{◌≡◌, ℕ, ◌+◌, ◌<◌, ◌≤◌, Bool, true, ◌||◌, ◌&&◌, nat_lt, nat_eq, Option, Some, None, slice_get}
use Rattle.pc_word.specs.declared.item.Item.{Item}
use Rattle.pc_word.specs.declared.item.Limits.{Limits}
use Rattle.pc_word.specs.Items.{is_memory}
use Rattle.pc_window.specs.Tree.{Tree, Front, tree_size}
use Rattle.pc_window.specs.WindowRun.{Window}
use Rattle.pc_window.specs.Filled.{item_count, memory_count, test_count}
use Rattle.pc_window.specs.Ready.{ReadyPlace, NotBehind}
use Rattle.pc_fill.specs.declared.room.Counts.{Counts}
use Rattle.pc_fill.specs.declared.first.ReadyNode.{ReadyNode}
use Rattle.pc_fill.specs.FirstReady.{StandsReady}
use Rattle.pc_fill.specs.models.Places.{nodes_of}

-- ---- room

-- these are the counts of a front
pub record AreCounts (counts : Counts) (front : Front) : Type 0 where
  pub items : counts.items ≡ item_count front
  pub memory : counts.memory ≡ memory_count front
  pub tests : counts.tests ≡ test_count front

-- no count is greater than a size
pub record FrontFits (counts : Counts) (size : ℕ) : Type 0 where
  pub items : counts.items ≤ size
  pub memory : counts.memory ≤ size
  pub tests : counts.tests ≤ size

-- an item, or a test, has room beside so many
abbrev pub HasRoom : Limits → Option Item → Counts → Type 0
HasRoom limits (Some item) counts = (counts.items < limits.ops) × (is_memory item ≡ true → counts.memory < limits.mem)
HasRoom limits None counts = counts.tests < limits.tests

-- ---- the walk

-- the items and tests of a tree stand from a place of another tree on
pub record StandsAt (tree : Tree) (place : ℕ) (all : Tree) : Type 0 where
  pub at : (k : ℕ) → k < tree_size tree → slice_get (nodes_of all) (place + k) ≡ slice_get (nodes_of tree) k

-- whether a tag and an origin come before others
abbrev pub precedes : (tag origin : ℕ) → (other_tag other_origin : ℕ) → Bool
precedes tag origin other_tag other_origin = nat_lt tag other_tag || (nat_eq tag other_tag && nat_lt origin other_origin)

-- whether they come before those of what was found
abbrev pub comes_before : ℕ → ℕ → Option ReadyNode → Bool
comes_before tag origin None = true
comes_before tag origin (Some best) = precedes tag origin best.tag best.origin

-- what was found before a place is the first of what is ready and has room before it
abbrev pub IsBest : (known : ℕ → Bool) → Window → ℕ → Option ReadyNode → Type 0
IsBest known w place None = (r : ReadyPlace known w) → r.place < place → ⊥
IsBest known w place (Some best) =
    StandsReady known w best × (best.place < place) × ((r : ReadyPlace known w) → r.place < place → NotBehind best.tag best.origin best.place r.tag r.origin r.place)

pub record BestBefore (known : ℕ → Bool) (w : Window) (place : ℕ) (best : Option ReadyNode) : Type 0 where
  pub is : IsBest known w place best

-- ---- at one place

-- what stands at a place is ready and has room, or nothing there is
abbrev pub IsReadyOrNot : (known : ℕ → Bool) → Window → ℕ → Option ReadyNode → Type 0
IsReadyOrNot known w place (Some it) = StandsReady known w it × (it.place ≡ place)
IsReadyOrNot known w place None = (r : ReadyPlace known w) → r.place ≡ place → ⊥
