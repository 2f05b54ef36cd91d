-- Trees of windows as plain data, with the leaves at which their nodes end.
use Rattle.std.specs.Prelude.{ℕ, suc, ◌+◌, Bool, true, false, List}
use Rattle.pc_word.specs.declared.item.Item.{Item}
use Rattle.pc_word.specs.declared.item.Operand.{Operand}
use Rattle.pc_word.specs.declared.item.TrapKind.{TrapKind}
use Rattle.pc_window.specs.declared.home.Home.{Home}
use Rattle.pc_window.specs.declared.tree.WindowTree.{WindowTree}
use Rattle.pc_window.specs.declared.tree.WindowTree.TheVariants as stored
use Rattle.pc_window.specs.Tree.{Tree, Pending, Undecided, Exit, Stop_exit, Trap_exit, Front, Issued, Split, Unfinished}

-- items and tests, leaves that lead to nodes, and places where the window is left
pub data NodeTree : Type 0 where
  Doing : (tag origin : ℕ) → (item : Item) → (rest : NodeTree) → NodeTree
  Asking : (tag origin : ℕ) → (on : Operand) → (on_yes on_no : NodeTree) → NodeTree
  Leading : (below : NodeTree) → NodeTree
  Leaving : (region tag : ℕ) → (stub_homes : List Home) → NodeTree
  Ending : NodeTree
  Trapping : (kind : TrapKind) → (line : ℕ) → NodeTree

-- what a tree in memory is
abbrev pub nodes_in : WindowTree → NodeTree
nodes_in (stored.Step' tag origin item p rest) = Doing tag origin item (nodes_in rest)
nodes_in (stored.Test' tag origin on p on_yes q on_no) = Asking tag origin on (nodes_in on_yes) (nodes_in on_no)
nodes_in (stored.Node' p below) = Leading (nodes_in below)
nodes_in (stored.Exit region tag stub_homes) = Leaving region tag stub_homes
nodes_in stored.Stop = Ending
nodes_in (stored.Trap kind line) = Trapping kind line

-- the tree of items and tests, wherever nodes end
abbrev pub plain_tree : NodeTree → Tree
plain_tree (Doing tag origin item rest) = Pending tag origin item (plain_tree rest)
plain_tree (Asking tag origin on on_yes on_no) = Undecided tag origin on (plain_tree on_yes) (plain_tree on_no)
plain_tree (Leading below) = plain_tree below
plain_tree (Leaving region tag stub_homes) = Exit region tag stub_homes
plain_tree Ending = Stop_exit
plain_tree (Trapping kind line) = Trap_exit kind line

-- the front: the root node is finished, and what stands behind its leaves is not
abbrev pub plain_front : NodeTree → Front
plain_front (Doing tag origin item rest) = Issued tag origin item (plain_front rest)
plain_front (Asking tag origin on on_yes on_no) = Split tag origin on (plain_front on_yes) (plain_front on_no)
plain_front (Leading below) = Unfinished (plain_tree below)
plain_front (Leaving region tag stub_homes) = Unfinished (Exit region tag stub_homes)
plain_front Ending = Unfinished Stop_exit
plain_front (Trapping kind line) = Unfinished (Trap_exit kind line)

-- how many items, tests and leaves there are, place by place
abbrev pub count_places : NodeTree → ℕ
count_places (Doing tag origin item rest) = suc (count_places rest)
count_places (Asking tag origin on on_yes on_no) = suc (count_places on_yes + count_places on_no)
count_places (Leading below) = suc (count_places below)
count_places (Leaving region tag stub_homes) = 1
count_places Ending = 1
count_places (Trapping kind line) = 1

-- each item and each test is a node of its own: at the root of a node, or below an item or test
abbrev pub AreSingle : (at_root : Bool) → NodeTree → Type 0
AreSingle true (Doing tag origin item rest) = AreSingle false rest
AreSingle true (Asking tag origin on on_yes on_no) = AreSingle false on_yes × AreSingle false on_no
AreSingle true (Leading below) = ⊥
AreSingle false (Doing tag origin item rest) = ⊥
AreSingle false (Asking tag origin on on_yes on_no) = ⊥
AreSingle false (Leading below) = AreSingle true below
AreSingle at_root (Leaving region tag stub_homes) = Unit {0}
AreSingle at_root Ending = Unit {0}
AreSingle at_root (Trapping kind line) = Unit {0}

-- so it is behind the root node
abbrev pub AreSingleBehind : NodeTree → Type 0
AreSingleBehind (Doing tag origin item rest) = AreSingleBehind rest
AreSingleBehind (Asking tag origin on on_yes on_no) = AreSingleBehind on_yes × AreSingleBehind on_no
AreSingleBehind (Leading below) = AreSingle true below
AreSingleBehind (Leaving region tag stub_homes) = Unit {0}
AreSingleBehind Ending = Unit {0}
AreSingleBehind (Trapping kind line) = Unit {0}
