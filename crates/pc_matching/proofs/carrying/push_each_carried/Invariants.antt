use Rattle.std.proofs.Common.{◌≡◌, ◌++◌, take}
use Rattle.std.specs.List.{flat_map}
use Rattle.pc_matching.specs.Facts.{facts_of}
use Rattle.pc_matching.specs.FactsAfter.{carried}
use Rattle.pc_matching.proofs.carrying.push_each_carried.Given as goal

-- what follows from the facts so far stands behind the others
abbrev pub invariant-loop-fact : goal.invariant-loop-fact
invariant-loop-fact l = facts_of l.after ≡ facts_of l.initial.after ++ flat_map (carried l.writers l.others) (facts_of (take l.fact-index l.before))
