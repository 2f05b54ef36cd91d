-- What is left of unwinding, in steps.
use Rattle.std.specs.Prelude.{ℕ, suc, ◌+◌, ◌*◌, ◌^◌}
use Rattle.pc_table.specs.Table.{Table}
use Rattle.pc_window.specs.declared.tree.WindowTree.{WindowTree}
use Rattle.pc_window.specs.declared.tree.WindowTree.TheVariants as stored
use Rattle.pc_window.specs.Tree.{Tree, Pending, Undecided, Exit, Stop_exit, Trap_exit, tree_size}
use Rattle.pc_window.specs.StoredWindow.{tree_in}
use Rattle.pc_window.specs.models.Ranks.{rank}

-- how often a window that is a stub may be unwound before it has an item or test
abbrev pub stub_steps : Table → Tree → ℕ
stub_steps table (Pending tag origin item rest) = 0
stub_steps table (Undecided tag origin on on_yes on_no) = 0
stub_steps table (Exit region tag homes) = suc (rank table region)
stub_steps table Stop_exit = 0
stub_steps table (Trap_exit kind line) = 0

-- what is left of a walk of a tree, as long as no item and no test comes in
abbrev pub tree_steps : Table → Tree → ℕ
tree_steps table (Pending tag origin item rest) = 2 ^ 30 + 2 * suc (tree_size rest)
tree_steps table (Undecided tag origin on on_yes on_no) = 2 ^ 30 + 2 * suc (tree_size on_yes + tree_size on_no)
tree_steps table (Exit region tag homes) = 2 + 2 * rank table region
tree_steps table Stop_exit = 0
tree_steps table (Trap_exit kind line) = 0

-- one step for a node
abbrev pub node_steps : WindowTree → ℕ
node_steps (stored.Step' tag origin item p rest) = 0
node_steps (stored.Test' tag origin on p on_yes q on_no) = 0
node_steps (stored.Node' p below) = 1
node_steps (stored.Exit region tag homes) = 0
node_steps stored.Stop = 0
node_steps (stored.Trap kind line) = 0

-- what is left of a walk of a tree in memory
abbrev pub walk_steps : Table → WindowTree → ℕ
walk_steps table tree = node_steps tree + tree_steps table (tree_in tree)
