use Rattle.std.proofs.Common.{◌≡◌, drop}
use Rattle.pc_matching.specs.FactsAfter.{first_writers, writers_below}
use Rattle.pc_matching.proofs.writers.first_writers.Given as goal

-- the first writers so far, and those of the items that follow, are those of the path
abbrev pub invariant-loop-item : goal.invariant-loop-item
invariant-loop-item l = first_writers l.items ≡ writers_below l.writers (drop l.item-index l.items)
