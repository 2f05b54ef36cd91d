use Rattle.std.proofs.Common.{◌≡◌, drop}
use Rattle.pc_matching.specs.Facts.{facts_of}
use Rattle.pc_matching.specs.Matching.{without_match}
use Rattle.pc_matching.specs.models.Searching.{with_all_above}
use Rattle.pc_matching.proofs.effects.without_match.Given as goal

-- the items so far stand above what is left of the others
abbrev pub invariant-loop-at : goal.invariant-loop-at
invariant-loop-at l =
    without_match (facts_of l.fn.facts) l.item l.fn.others ≡ with_all_above l.left (without_match (facts_of l.fn.facts) l.item (drop l.at l.fn.others))
