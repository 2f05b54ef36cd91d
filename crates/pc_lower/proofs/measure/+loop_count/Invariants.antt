use Rattle.std.proofs.Common.{◌≡◌, min, take}
use Rattle.pc_syntax.specs.Erasure.{list_of}
use Rattle.pc_lower.specs.SourceLoops.{list_loops}
use Rattle.pc_lower.proofs.measure.+loop_count.Given as goal

-- the total so far is that of the statements so far
abbrev pub invariant-list_loops-loop-item : goal.invariant-list_loops-loop-item
invariant-list_loops-loop-item l = l.total ≡ min (list_loops (list_of (take l.item-index l.items))) 65535
