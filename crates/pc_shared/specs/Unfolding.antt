-- The tree that a store and one of its numbers unfold to. Several nodes may name one, so it may be seen at several places of the tree.
use Rattle.std.specs.Prelude.{◌≡◌, ℕ, zero, suc, List, [], Option, Some, None}
use Rattle.pc_window.specs.declared.home.Home.{Home}
use Rattle.pc_arena.specs.Held.{value_at, Holds}
use Rattle.pc_shared.specs.declared.node.SharedNode.{SharedNode}
use Rattle.pc_shared.specs.declared.node.SharedNode.TheVariants as shared
use Rattle.pc_shared.specs.declared.store.Store.{Store}
use Rattle.pc_shared.specs.NodeTree.{NodeTree, Doing, Asking, Leading, Leaving, Ending, Trapping}

-- the homes of a stub; none where the number has none
abbrev pub listed_homes : Option (List Home) → List Home
listed_homes None = []
listed_homes (Some list) = list

-- a node's tree, by the trees of the numbers that it names
abbrev pub node_tree : Store → Option SharedNode → (ℕ → NodeTree) → NodeTree
node_tree store None tree = Ending
node_tree store (Some (shared.Step tag origin item rest)) tree = Doing tag origin item (tree rest)
node_tree store (Some (shared.Test tag origin on on_yes on_no)) tree = Asking tag origin on (tree on_yes) (tree on_no)
node_tree store (Some (shared.Node below)) tree = Leading (tree below)
node_tree store (Some (shared.Exit region tag listed)) tree = Leaving region tag (listed_homes (value_at store.homes listed))
node_tree store (Some shared.Stop) tree = Ending
node_tree store (Some (shared.Trap kind line)) tree = Trapping kind line

-- the tree that a number unfolds to, no deeper than so many nodes
abbrev pub tree_at : ℕ → Store → ℕ → NodeTree
tree_at zero store id = Ending
tree_at (suc most) store id = node_tree store (value_at store.nodes id) (tree_at most store)

-- a node is there, and so is what it names
abbrev pub NodeStands : Store → Option SharedNode → (ℕ → Type 0) → Type 0
NodeStands store None Below = ⊥
NodeStands store (Some (shared.Step tag origin item rest)) Below = Below rest
NodeStands store (Some (shared.Test tag origin on on_yes on_no)) Below = Below on_yes × Below on_no
NodeStands store (Some (shared.Node below)) Below = Below below
NodeStands store (Some (shared.Exit region tag listed)) Below = Holds store.homes listed
NodeStands store (Some shared.Stop) Below = Unit {0}
NodeStands store (Some (shared.Trap kind line)) Below = Unit {0}

-- all nodes below a number are there, and none lies deeper than so many: so no way down comes to a node again
abbrev pub Stands : ℕ → Store → ℕ → Type 0
Stands zero store id = ⊥
Stands (suc most) store id = NodeStands store (value_at store.nodes id) (Stands most store)

-- a number stands in one store with the tree that another number has in another, where that one stands there
abbrev pub Carries : (old : Store) (most from : ℕ) (new : Store) (deep to : ℕ) → Type 0
Carries old most from new deep to = Stands most old from → Stands deep new to × (tree_at deep new to ≡ tree_at most old from)

-- every tree that stood before stands, and is as before
pub record KeepsTrees (old new : Store) : Type 0 where
  pub same : (most id : ℕ) → Carries old most id new most id

-- what was there is as before
pub record Extends (old new : Store) : Type 0 where
  pub same_nodes : (id : ℕ) → Holds old.nodes id → value_at new.nodes id ≡ value_at old.nodes id
  pub same_homes : (id : ℕ) → Holds old.homes id → value_at new.homes id ≡ value_at old.homes id

-- all trees are kept, and a number's tree is this one, no deeper than so many nodes
pub record Becomes (old new : Store) (most id : ℕ) (tree : NodeTree) : Type 0 where
  pub keeps : KeepsTrees old new
  pub stands : Stands most new id
  pub is : tree_at most new id ≡ tree
