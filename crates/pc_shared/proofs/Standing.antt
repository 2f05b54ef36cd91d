-- What stands, node by node.
use Rattle.std.proofs.Common.{◌≡◌, ℕ, zero, suc, ◌-◌, ◌≤◌, Bool, true, false, Option, Some, None, IsSome}
use Rattle.std.proofs.Common.{refl, ap, sym, subst, ◌∙◌, arith}
use Rattle.pc_word.specs.declared.item.Item.{Item}
use Rattle.pc_word.specs.declared.item.Operand.{Operand}
use Rattle.pc_word.specs.declared.item.TrapKind.{TrapKind}
use Rattle.pc_arena.specs.Held.{value_at, Holds}
use Rattle.pc_shared.specs.declared.node.SharedNode.{SharedNode}
use Rattle.pc_shared.specs.declared.node.SharedNode.TheVariants as shared
use Rattle.pc_shared.specs.declared.store.Store.{Store}
use Rattle.pc_shared.specs.NodeTree.{NodeTree, Doing, Asking, Leading, Leaving, Ending, Trapping}
use Rattle.pc_shared.specs.Links.{link_of}
use Rattle.pc_shared.specs.Unfolding.{listed_homes, node_tree, tree_at, NodeStands, Stands}

node_there : (store : Store) (node : Option SharedNode) (Below : ℕ → Type 0) → NodeStands store node Below → IsSome node
node_there store None Below stands = absurd stands
node_there store (Some node) Below stands = refl

-- a node that stands is there
pub stands_there : (most : ℕ) (store : Store) (id : ℕ) → Stands most store id → Holds store.nodes id
stands_there zero store id stands = absurd stands
stands_there (suc most) store id stands = node_there store (value_at store.nodes id) (Stands most store) stands

pub stands_deep : (most : ℕ) (store : Store) (id : ℕ) → Stands most store id → 1 ≤ most
stands_deep zero store id stands = absurd stands
stands_deep (suc most) store id stands = omega arith

same_link : (a b : ℕ) → Some a ≡ Some b → a ≡ b
same_link a b e = cc

-- what holds of all that a node names holds of what it names on a side
pub link_below : (store : Store) (node : Option SharedNode) (side : Bool) (child : ℕ) (Below : ℕ → Type 0) → link_of node side ≡ Some child
    → NodeStands store node Below → Below child
link_below store None side child Below is stands = absurd stands
link_below store (Some (shared.Step tag origin item rest)) side child Below is stands = subst Below (same_link rest child is) stands
link_below store (Some (shared.Test tag origin on on_yes on_no)) true child Below is stands =
    subst Below (same_link on_yes child is) stands.0
link_below store (Some (shared.Test tag origin on on_yes on_no)) false child Below is stands =
    subst Below (same_link on_no child is) stands.1
link_below store (Some (shared.Node below)) side child Below is stands = subst Below (same_link below child is) stands
link_below store (Some (shared.Exit region tag listed)) side child Below is stands = absurd (cc)
link_below store (Some shared.Stop) side child Below is stands = absurd (cc)
link_below store (Some (shared.Trap kind line)) side child Below is stands = absurd (cc)

one_less : (most : ℕ) → most ≡ suc most - 1
one_less most = omega arith

-- what a node that stands names is at least one node less deep
pub link_stands : (most : ℕ) (store : Store) (id : ℕ) (side : Bool) (child : ℕ) → Stands most store id
    → link_of (value_at store.nodes id) side ≡ Some child → Stands (most - 1) store child
link_stands zero store id side child stands is = absurd stands
link_stands (suc most) store id side child stands is =
    let below = link_below store (value_at store.nodes id) side child (Stands most store) is stands in
    subst (λ (d : ℕ). Stands d store child) (one_less most) below

-- what stands below an item, a test and a leaf
pub below_step : (most : ℕ) (store : Store) (id tag origin : ℕ) (item : Item) (rest : ℕ) → Stands most store id
    → value_at store.nodes id ≡ Some (shared.Step tag origin item rest) → Stands (most - 1) store rest
below_step most store id tag origin item rest stands is = link_stands most store id true rest stands (ap (λ n. link_of n true) is)

pub below_yes : (most : ℕ) (store : Store) (id tag origin : ℕ) (on : Operand) (on_yes on_no : ℕ) → Stands most store id
    → value_at store.nodes id ≡ Some (shared.Test tag origin on on_yes on_no) → Stands (most - 1) store on_yes
below_yes most store id tag origin on on_yes on_no stands is = link_stands most store id true on_yes stands (ap (λ n. link_of n true) is)

pub below_no : (most : ℕ) (store : Store) (id tag origin : ℕ) (on : Operand) (on_yes on_no : ℕ) → Stands most store id
    → value_at store.nodes id ≡ Some (shared.Test tag origin on on_yes on_no) → Stands (most - 1) store on_no
below_no most store id tag origin on on_yes on_no stands is = link_stands most store id false on_no stands (ap (λ n. link_of n false) is)

pub below_node : (most : ℕ) (store : Store) (id below : ℕ) → Stands most store id
    → value_at store.nodes id ≡ Some (shared.Node below) → Stands (most - 1) store below
below_node most store id below stands is = link_stands most store id true below stands (ap (λ n. link_of n true) is)

-- the homes of a stub that stands are there
pub homes_there : (most : ℕ) (store : Store) (id region tag listed : ℕ) → Stands most store id
    → value_at store.nodes id ≡ Some (shared.Exit region tag listed) → Holds store.homes listed
homes_there zero store id region tag listed stands is = absurd stands
homes_there (suc most) store id region tag listed stands is =
    subst (λ (n : Option SharedNode). NodeStands store n (Stands most store)) is stands

-- the tree of a node that stands
pub step_tree : (most : ℕ) (store : Store) (id tag origin : ℕ) (item : Item) (rest : ℕ) → Stands most store id
    → value_at store.nodes id ≡ Some (shared.Step tag origin item rest)
    → tree_at most store id ≡ Doing tag origin item (tree_at (most - 1) store rest)
step_tree zero store id tag origin item rest stands is = absurd stands
step_tree (suc most) store id tag origin item rest stands is =
    ap (λ (n : Option SharedNode). node_tree store n (tree_at most store)) is
    ∙ ap (λ (d : ℕ). Doing tag origin item (tree_at d store rest)) (one_less most)

pub test_tree : (most : ℕ) (store : Store) (id tag origin : ℕ) (on : Operand) (on_yes on_no : ℕ) → Stands most store id
    → value_at store.nodes id ≡ Some (shared.Test tag origin on on_yes on_no)
    → tree_at most store id ≡ Asking tag origin on (tree_at (most - 1) store on_yes) (tree_at (most - 1) store on_no)
test_tree zero store id tag origin on on_yes on_no stands is = absurd stands
test_tree (suc most) store id tag origin on on_yes on_no stands is =
    ap (λ (n : Option SharedNode). node_tree store n (tree_at most store)) is
    ∙ ap (λ (d : ℕ). Asking tag origin on (tree_at d store on_yes) (tree_at d store on_no)) (one_less most)

pub leading_tree : (most : ℕ) (store : Store) (id below : ℕ) → Stands most store id → value_at store.nodes id ≡ Some (shared.Node below)
    → tree_at most store id ≡ Leading (tree_at (most - 1) store below)
leading_tree zero store id below stands is = absurd stands
leading_tree (suc most) store id below stands is =
    ap (λ (n : Option SharedNode). node_tree store n (tree_at most store)) is
    ∙ ap (λ (d : ℕ). Leading (tree_at d store below)) (one_less most)

pub exit_tree : (most : ℕ) (store : Store) (id region tag listed : ℕ) → Stands most store id
    → value_at store.nodes id ≡ Some (shared.Exit region tag listed)
    → tree_at most store id ≡ Leaving region tag (listed_homes (value_at store.homes listed))
exit_tree zero store id region tag listed stands is = absurd stands
exit_tree (suc most) store id region tag listed stands is = ap (λ (n : Option SharedNode). node_tree store n (tree_at most store)) is

pub stop_tree : (most : ℕ) (store : Store) (id : ℕ) → Stands most store id → value_at store.nodes id ≡ Some shared.Stop
    → tree_at most store id ≡ Ending
stop_tree zero store id stands is = absurd stands
stop_tree (suc most) store id stands is = ap (λ (n : Option SharedNode). node_tree store n (tree_at most store)) is

pub trap_tree : (most : ℕ) (store : Store) (id : ℕ) (kind : TrapKind) (line : ℕ) → Stands most store id
    → value_at store.nodes id ≡ Some (shared.Trap kind line) → tree_at most store id ≡ Trapping kind line
trap_tree zero store id kind line stands is = absurd stands
trap_tree (suc most) store id kind line stands is = ap (λ (n : Option SharedNode). node_tree store n (tree_at most store)) is

pub ruleset below = (below_step, below_yes, below_no, below_node, homes_there)

pub ruleset trees = (step_tree, test_tree, leading_tree, exit_tree, stop_tree, trap_tree)

pub ruleset standing = (stands_there, stands_deep, below, trees)

-- ---- a node that is known

-- where a number has a node that stands with a tree, the number does
pub node_is : (store : Store) (most id : ℕ) (found : Option SharedNode) (tree : NodeTree) → value_at store.nodes id ≡ found
    → NodeStands store found (Stands most store) × (node_tree store found (tree_at most store) ≡ tree)
    → Stands (suc most) store id × (tree_at (suc most) store id ≡ tree)
node_is store most id found tree is it = (
  subst (λ (n : Option SharedNode). NodeStands store n (Stands most store)) (sym is) it.0,
  ap (λ (n : Option SharedNode). node_tree store n (tree_at most store)) is ∙ it.1,
)
