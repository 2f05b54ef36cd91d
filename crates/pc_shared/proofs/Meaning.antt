-- Trees with their nodes, and the windows that they are.
use Rattle.std.proofs.Common.{◌≡◌, ◌∙◌, ℕ, ◌+◌, ◌*◌, ◌^◌, ◌<◌, ◌≤◌, Bool, true, false, refl, ap, sym, arith}
use Rattle.pc_window.specs.declared.tree.WindowTree.{WindowTree}
use Rattle.pc_window.specs.declared.tree.WindowTree.TheVariants as stored
use Rattle.pc_window.specs.Tree.{Pending, Undecided, Issued, Split, Unfinished, whole, tree_size}
use Rattle.pc_window.specs.StoredWindow.{tree_in, front_in, InNodes, NodesBehind}
use Rattle.pc_shared.specs.NodeTree.{NodeTree, Doing, Asking, Leading, Leaving, Ending, Trapping}
use Rattle.pc_shared.specs.NodeTree.{nodes_in, plain_tree, plain_front, count_places}

-- a tree in memory, without its nodes
pub plain_tree_in : (tree : WindowTree) → plain_tree (nodes_in tree) ≡ tree_in tree
plain_tree_in (stored.Step' tag origin item p rest) = ap (Pending tag origin item) (plain_tree_in rest)
plain_tree_in (stored.Test' tag origin on p on_yes q on_no) = λ i. Undecided tag origin on (plain_tree_in on_yes i) (plain_tree_in on_no i)
plain_tree_in (stored.Node' p below) = plain_tree_in below
plain_tree_in (stored.Exit region tag stub_homes) = refl
plain_tree_in stored.Stop = refl
plain_tree_in (stored.Trap kind line) = refl

pub plain_front_in : (tree : WindowTree) → plain_front (nodes_in tree) ≡ front_in tree
plain_front_in (stored.Step' tag origin item p rest) = ap (Issued tag origin item) (plain_front_in rest)
plain_front_in (stored.Test' tag origin on p on_yes q on_no) = λ i. Split tag origin on (plain_front_in on_yes i) (plain_front_in on_no i)
plain_front_in (stored.Node' p below) = ap Unfinished (plain_tree_in below)
plain_front_in (stored.Exit region tag stub_homes) = refl
plain_front_in stored.Stop = refl
plain_front_in (stored.Trap kind line) = refl

-- the whole of a front is the tree
pub whole_front : (tree : NodeTree) → whole (plain_front tree) ≡ plain_tree tree
whole_front (Doing tag origin item rest) = ap (Pending tag origin item) (whole_front rest)
whole_front (Asking tag origin on on_yes on_no) = λ i. Undecided tag origin on (whole_front on_yes i) (whole_front on_no i)
whole_front (Leading below) = refl
whole_front (Leaving region tag stub_homes) = refl
whole_front Ending = refl
whole_front (Trapping kind line) = refl

-- there are at least as many places as items and tests
pub size_below_places : (tree : NodeTree) → tree_size (plain_tree tree) ≤ count_places tree
size_below_places (Doing tag origin item rest) = let r = size_below_places rest in omega (arith, r)
size_below_places (Asking tag origin on on_yes on_no) =
    let y = size_below_places on_yes in let n = size_below_places on_no in omega (arith, y, n)
size_below_places (Leading below) = let r = size_below_places below in omega (arith, r)
size_below_places (Leaving region tag stub_homes) = omega arith
size_below_places Ending = omega arith
size_below_places (Trapping kind line) = omega arith

pub ruleset meaning = (plain_front_in, whole_front, size_below_places)

-- ---- how many places there are

-- where each item and each test is a node of its own, there are at most four places for each, and one more
abbrev FewPlaces : ℕ → WindowTree → Type 0
FewPlaces more tree = count_places (nodes_in tree) ≤ 4 * tree_size (tree_in tree) + more

-- one more at a root, and two more below an item or test
abbrev more_at : (at_root : Bool) → ℕ
more_at true = 1
more_at false = 2

in_nodes : (at_root : Bool) (tree : WindowTree) → InNodes at_root tree → FewPlaces (more_at at_root) tree
in_nodes true (stored.Step' tag origin item p rest) h = let r = in_nodes false rest h in omega (arith, r)
in_nodes true (stored.Test' tag origin on p on_yes q on_no) h =
    let y = in_nodes false on_yes h.0 in
    let n = in_nodes false on_no h.1 in
    omega (arith, y, n)
in_nodes true (stored.Node' p below) h = absurd h
in_nodes false (stored.Step' tag origin item p rest) h = absurd h
in_nodes false (stored.Test' tag origin on p on_yes q on_no) h = absurd h
in_nodes false (stored.Node' p below) h = let r = in_nodes true below h in omega (arith, r)
in_nodes true (stored.Exit region tag stub_homes) h = omega arith
in_nodes true stored.Stop h = omega arith
in_nodes true (stored.Trap kind line) h = omega arith
in_nodes false (stored.Exit region tag stub_homes) h = omega arith
in_nodes false stored.Stop h = omega arith
in_nodes false (stored.Trap kind line) h = omega arith

behind_root : (tree : WindowTree) → NodesBehind tree → FewPlaces 2 tree
behind_root (stored.Step' tag origin item p rest) h = let r = behind_root rest h in omega (arith, r)
behind_root (stored.Test' tag origin on p on_yes q on_no) h =
    let y = behind_root on_yes h.0 in
    let n = behind_root on_no h.1 in
    omega (arith, y, n)
behind_root (stored.Node' p below) h = let r = in_nodes true below h in omega (arith, r)
behind_root (stored.Exit region tag stub_homes) h = omega arith
behind_root stored.Stop h = omega arith
behind_root (stored.Trap kind line) h = omega arith

-- the whole of a front in memory is its tree
front_whole : (tree : WindowTree) → whole (front_in tree) ≡ tree_in tree
front_whole tree = ap whole (sym (plain_front_in tree)) ∙ whole_front (nodes_in tree) ∙ plain_tree_in tree

-- a window of so many items and tests, of which each is a node of its own, has fewer places than may be counted
pub few_in_nodes : (tree : WindowTree) → InNodes true tree → tree_size (whole (front_in tree)) < 2 ^ 28
    → count_places (nodes_in tree) < 2 ^ 31
few_in_nodes tree h small =
    let few = in_nodes true tree h in
    let same : tree_size (whole (front_in tree)) ≡ tree_size (tree_in tree) = ap tree_size (front_whole tree) in
    omega (arith, few, small, same)

-- so has one where this holds behind the front
pub few_behind : (tree : WindowTree) → NodesBehind tree → tree_size (whole (front_in tree)) < 2 ^ 28
    → count_places (nodes_in tree) < 2 ^ 31
few_behind tree h small =
    let few = behind_root tree h in
    let same : tree_size (whole (front_in tree)) ≡ tree_size (tree_in tree) = ap tree_size (front_whole tree) in
    omega (arith, few, small, same)

pub ruleset counted = (few_in_nodes, few_behind)
