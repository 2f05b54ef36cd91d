use Rattle.std.proofs.Common.{◌≡◌, ℕ}
use Rattle.std.specs.List.{flat_map}
use Rattle.pc_window.specs.Tree.{home_of}
use Rattle.pc_matching.specs.Facts.{facts_of}
use Rattle.pc_settling.specs.Remaining.{sources_of, have_value_of}
use Rattle.pc_settling.specs.Begun.{numbers_below}
use Rattle.pc_settling.proofs.entering.facts_in_region.Given as goal

-- the facts of the variables so far
abbrev pub invariant-loop-variable : goal.invariant-loop-variable
invariant-loop-variable l =
    facts_of l.inside ≡ flat_map (λ (variable : ℕ). have_value_of variable (sources_of (home_of l.homes variable) (facts_of l.facts))) (numbers_below l.variable)
