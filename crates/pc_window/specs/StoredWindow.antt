-- Windows as they lie in memory: boxed trees, forms in a list by name, homes in a list by variable. Where nodes end, and
-- the window that each is.
use Rattle.std.specs.Prelude.{◌≤◌, ◌+◌, ℕ, Bool, true, false, pos, List, length, Option, Some, None, slice_get, slice_index_or}
use Rattle.pc_word.specs.declared.item.Operand.{Operand}
use Rattle.pc_word.specs.declared.item.Operand.TheVariants.{Lit}
use Rattle.pc_linear.specs.Form.{Form}
use Rattle.pc_linear.specs.Combine.{constant_form}
use Rattle.pc_table.specs.TableKeeps.{most_region_nodes}
use Rattle.pc_window.specs.declared.tree.WindowTree.{WindowTree}
use Rattle.pc_window.specs.declared.tree.WindowTree.TheVariants as stored
use Rattle.pc_window.specs.declared.names.NameTable.{NameTable}
use Rattle.pc_window.specs.declared.window.Window.{Window as StoredWindow}
use Rattle.pc_window.specs.Tree.{Tree, Pending, Undecided, Exit, Stop_exit, Trap_exit, Front, Issued, Split, Unfinished, tree_size}
use Rattle.pc_window.specs.Opening.{Supply, first_new}
use Rattle.pc_window.specs.WindowRun.{Window}

-- the tree that a tree in memory is, wherever its nodes end
abbrev pub tree_in : WindowTree → Tree
tree_in (stored.Step' tag origin item p rest) = Pending tag origin item (tree_in rest)
tree_in (stored.Test' tag origin on p on_yes q on_no) = Undecided tag origin on (tree_in on_yes) (tree_in on_no)
tree_in (stored.Node' p below) = tree_in below
tree_in (stored.Exit region tag homes) = Exit region tag homes
tree_in stored.Stop = Stop_exit
tree_in (stored.Trap kind line) = Trap_exit kind line

-- the front of a tree in memory: its root node
abbrev pub front_in : WindowTree → Front
front_in (stored.Step' tag origin item p rest) = Issued tag origin item (front_in rest)
front_in (stored.Test' tag origin on p on_yes q on_no) = Split tag origin on (front_in on_yes) (front_in on_no)
front_in (stored.Node' p below) = Unfinished (tree_in below)
front_in (stored.Exit region tag homes) = Unfinished (Exit region tag homes)
front_in stored.Stop = Unfinished Stop_exit
front_in (stored.Trap kind line) = Unfinished (Trap_exit kind line)

-- the form of a name in a list by name; names that are not listed are the constant 0
abbrev pub form_or_none : Option Form → Form
form_or_none None = constant_form (pos 0)
form_or_none (Some form) = form

abbrev pub forms_in : List Form → ℕ → Form
forms_in forms name = form_or_none (slice_get forms name)

-- the names that a table of names is
abbrev pub supply_in : NameTable → Supply
supply_in names = record { forms = forms_in names.forms; next = length names.forms; next_variable = names.next_variable }

-- the home of a variable in a list by variable; variables that are not listed have the value 0
abbrev pub homes_in : List Operand → ℕ → Operand
homes_in homes variable = slice_index_or homes variable (Lit (pos 0))

-- the window that a window in memory is
abbrev pub window_in : StoredWindow → Window
window_in w = record {
  front = front_in w.tree;
  forms = forms_in w.names.forms;
  next = length w.names.forms;
  next_variable = w.names.next_variable;
  limits = w.limits;
  inside = w.inside;
}

-- each item and each test is a node of its own: at the root of a node, or below an item or test
abbrev pub InNodes : (at_root : Bool) → WindowTree → Type 0
InNodes true (stored.Step' tag origin item p rest) = InNodes false rest
InNodes true (stored.Test' tag origin on p on_yes q on_no) = InNodes false on_yes × InNodes false on_no
InNodes true (stored.Node' p below) = ⊥
InNodes false (stored.Step' tag origin item p rest) = ⊥
InNodes false (stored.Test' tag origin on p on_yes q on_no) = ⊥
InNodes false (stored.Node' p below) = InNodes true below
InNodes at_root (stored.Exit region tag homes) = Unit {0}
InNodes at_root stored.Stop = Unit {0}
InNodes at_root (stored.Trap kind line) = Unit {0}

-- behind the root node each item and each test is a node of its own
abbrev pub NodesBehind : WindowTree → Type 0
NodesBehind (stored.Step' tag origin item p rest) = NodesBehind rest
NodesBehind (stored.Test' tag origin on p on_yes q on_no) = NodesBehind on_yes × NodesBehind on_no
NodesBehind (stored.Node' p below) = InNodes true below
NodesBehind (stored.Exit region tag homes) = Unit {0}
NodesBehind stored.Stop = Unit {0}
NodesBehind (stored.Trap kind line) = Unit {0}

-- whether a tree in memory has neither item nor test at its root
abbrev pub is_leaf : WindowTree → Bool
is_leaf (stored.Step' tag origin item p rest) = false
is_leaf (stored.Test' tag origin on p on_yes q on_no) = false
is_leaf (stored.Node' p below) = true
is_leaf (stored.Exit region tag homes) = true
is_leaf stored.Stop = true
is_leaf (stored.Trap kind line) = true

-- a window that was just opened is small: a region's tree has so many items and tests, and so many names and form variables
-- are new beside those of the variables
pub record IsJustOpened (w : StoredWindow) : Type 0 where
  pub size : tree_size (tree_in w.tree) ≤ most_region_nodes
  pub names : length w.names.forms ≤ first_new + most_region_nodes
  pub variables : w.names.next_variable ≤ first_new + most_region_nodes
