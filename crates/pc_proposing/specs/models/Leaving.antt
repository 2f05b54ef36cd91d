-- What is left behind the front of a window.
use Rattle.std.specs.Prelude.{ℕ, Option}
use Rattle.std.specs.List.{AllByRecursion}
use Rattle.pc_word.specs.declared.item.Limits.{Limits}
use Rattle.pc_window.specs.declared.tree.WindowTree.{WindowTree}
use Rattle.pc_window.specs.declared.tree.WindowTree.TheVariants as stored
use Rattle.pc_window.specs.declared.names.NameTable.{NameTable}
use Rattle.pc_window.specs.declared.window.Window.{Window}
use Rattle.pc_settling.specs.Stored.{IsLeft}
use Rattle.pc_proposing.specs.declared.stands.Stands as stored_stands

-- a tree as a window with these names, under these limits, of this loop
abbrev pub as_window : NameTable → Limits → Option ℕ → WindowTree → Window
as_window names limits inside tree = record { tree = tree; names = names; limits = limits; inside = inside }

-- what stands behind each leaf of a front is a window that is left to do
abbrev pub LeavesLeft : NameTable → Limits → Option ℕ → WindowTree → Type 0
LeavesLeft names limits inside (stored.Step' tag origin item p rest) = LeavesLeft names limits inside rest
LeavesLeft names limits inside (stored.Test' tag origin on p on_yes q on_no) = LeavesLeft names limits inside on_yes × LeavesLeft names limits inside on_no
LeavesLeft names limits inside (stored.Node' p below) = IsLeft (as_window names limits inside below)
LeavesLeft names limits inside (stored.Exit region tag homes) = IsLeft (as_window names limits inside (stored.Exit region tag homes))
LeavesLeft names limits inside stored.Stop = IsLeft (as_window names limits inside stored.Stop)
LeavesLeft names limits inside (stored.Trap kind line) = IsLeft (as_window names limits inside (stored.Trap kind line))

-- what was left where rows were reached is left to do
abbrev pub AllLeft : stored_stands.Stands → Type 0
AllLeft stands = AllByRecursion IsLeft stands.lefts.items
