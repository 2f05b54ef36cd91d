use Rattle.std.proofs.Common.{◌≡◌, map, take}
use Rattle.pc_window.specs.declared.home.Home.{Home}
use Rattle.pc_window_specimen.proofs.naming.variables_of.Given as goal

-- the variables so far
abbrev pub invariant-loop-home : goal.invariant-loop-home
invariant-loop-home l = l.variables ≡ map (λ (home : Home). home.variable) (take l.home-index l.homes)
