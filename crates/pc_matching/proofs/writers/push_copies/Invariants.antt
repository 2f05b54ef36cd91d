use Rattle.std.proofs.Common.{◌≡◌, ◌++◌, take}
use Rattle.std.specs.List.{flat_map}
use Rattle.pc_matching.specs.FactsAfter.{copy_of}
use Rattle.pc_matching.proofs.writers.push_copies.Given as goal

-- the copies so far stand behind the others
abbrev pub invariant-loop-item : goal.invariant-loop-item
invariant-loop-item l = l.operands ≡ l.initial.operands ++ flat_map (copy_of l.from) (take l.item-index l.writers)
