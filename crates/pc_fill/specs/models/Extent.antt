-- How far a tree in memory goes on.
use Rattle.std.specs.Prelude.{ℕ, suc, ◌+◌}
use Rattle.pc_window.specs.declared.tree.WindowTree.{WindowTree}
use Rattle.pc_window.specs.declared.tree.WindowTree.TheVariants as stored

-- the items, tests and nodes of a tree, by which recursions on it end
abbrev pub extent : WindowTree → ℕ
extent (stored.Step' tag origin item p rest) = suc (extent rest)
extent (stored.Test' tag origin on p on_yes q on_no) = suc (extent on_yes + extent on_no)
extent (stored.Node' p below) = suc (extent below)
extent (stored.Exit region tag homes) = 0
extent stored.Stop = 0
extent (stored.Trap kind line) = 0
