use Rattle.std.proofs.Common.{◌≡◌, ◌≤◌, length, drop}
use Rattle.pc_window.specs.Tree.{home_of}
use Rattle.pc_window.specs.Opening.{first_new}
use Rattle.pc_window.specs.StoredWindow.{homes_in}
use Rattle.pc_unwind.proofs.homes.put_homes.Given as goal

abbrev pub invariant-loop-left : goal.invariant-loop-left
invariant-loop-left l = (l.left ≤ length l.homes) × (homes_in l.by_variable ≡ home_of (drop l.left l.homes)) × (length l.by_variable ≡ first_new)

abbrev pub decreases-loop-left : goal.decreases-loop-left
decreases-loop-left l = l.left
