use Rattle.std.proofs.Common.{◌≡◌, ◌++◌, take}
use Rattle.pc_matching.specs.Facts.{facts_of}
use Rattle.pc_matching.specs.FactsAfter.{computed}
use Rattle.pc_matching.proofs.carrying.push_computed.Given as goal

-- what follows from the items so far stands behind the others
abbrev pub invariant-loop-item : goal.invariant-loop-item
invariant-loop-item l = facts_of l.after ≡ facts_of l.initial.after ++ computed (facts_of l.facts) (take l.item-index l.writers) l.others
