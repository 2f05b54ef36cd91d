use Rattle.std.proofs.Common.{◌≡◌, ◌++◌, take}
use Rattle.std.specs.List.{flat_map}
use Rattle.pc_matching.specs.Facts.{facts_of}
use Rattle.pc_matching.specs.FactsAfter.{computed_by}
use Rattle.pc_matching.proofs.carrying.push_computed_by.Given as goal

-- what follows from the items so far stands behind the others
abbrev pub invariant-loop-other : goal.invariant-loop-other
invariant-loop-other l = facts_of l.after ≡ facts_of l.initial.after ++ flat_map (computed_by (facts_of l.facts) l.item) (take l.other-index l.others)
