use Rattle.std.proofs.Common.{◌≡◌, drop}
use Rattle.std.specs.List.{list_all}
use Rattle.pc_canon.specs.Canonical.{side_by_side}
use Rattle.pc_matching.specs.Facts.{facts_of}
use Rattle.pc_settling.specs.Arrives.{holds_here}
use Rattle.pc_settling.proofs.arriving.all_hold_here.Given as goal

-- all hold if those that follow do
abbrev pub invariant-loop-fact : goal.invariant-loop-fact
invariant-loop-fact l =
    list_all (holds_here (side_by_side l.ones l.others) (facts_of l.held)) (facts_of l.facts)
    ≡ list_all (holds_here (side_by_side l.ones l.others) (facts_of l.held)) (facts_of (drop l.fact-index l.facts))
