-- What is left at the leaves of a row, as it is stored.
use Rattle.std.specs.Prelude.{true}
use Rattle.pc_window.specs.Kept.{Left, Rest, Gone, Finished, Trapped_at}
use Rattle.pc_window.specs.StoredWindow.{window_in, InNodes}
use Rattle.pc_automaton.specs.declared.left.Left.{Left as StoredLeft}
use Rattle.pc_automaton.specs.declared.left.Left.TheVariants as left

-- what is left at a leaf
abbrev pub left_in : StoredLeft → Left
left_in (left.Rest window) = Rest (window_in window)
left_in (left.Out region homes) = Gone region homes
left_in left.Stop = Finished
left_in (left.Trap kind line) = Trapped_at kind line

-- a window that is left has a node for each item and each test
abbrev pub LeftInNodes : StoredLeft → Type 0
LeftInNodes (left.Rest window) = InNodes true window.tree
LeftInNodes (left.Out region homes) = Unit {0}
LeftInNodes left.Stop = Unit {0}
LeftInNodes (left.Trap kind line) = Unit {0}
