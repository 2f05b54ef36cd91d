use Rattle.std.proofs.Common.{◌≡◌, drop}
use Rattle.pc_window.specs.Tree.{home_of}
use Rattle.pc_settling.proofs.entering.home_of.Given as goal

-- the home is among those that follow
abbrev pub invariant-loop-home : goal.invariant-loop-home
invariant-loop-home l = home_of l.homes l.variable ≡ home_of (drop l.home-index l.homes) l.variable
