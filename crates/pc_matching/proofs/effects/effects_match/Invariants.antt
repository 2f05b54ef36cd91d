use Rattle.std.proofs.Common.{◌≡◌, drop, Some}
use Rattle.pc_matching.specs.Facts.{facts_of}
use Rattle.pc_matching.specs.Matching.{effects_taken}
use Rattle.pc_matching.proofs.effects.effects_match.Given as goal

-- what the items that follow take from what is left is what all take from the whole path
abbrev pub invariant-loop-item : goal.invariant-loop-item
invariant-loop-item l =
    effects_taken (facts_of l.fn.facts) l.items (Some l.fn.others) ≡ effects_taken (facts_of l.fn.facts) (drop l.item-index l.items) (Some l.left)
