use Rattle.std.proofs.Common.{◌≡◌, ◌++◌, take, map}
use Rattle.std.specs.List.{flat_map}
use Rattle.pc_matching.specs.Facts.{facts_of}
use Rattle.pc_matching.specs.FactsAfter.{that}
use Rattle.pc_matching.proofs.carrying.push_pairs.Given as goal

-- the facts of the sources so far stand behind the others
abbrev pub invariant-loop-source : goal.invariant-loop-source
invariant-loop-source l = facts_of l.after ≡ facts_of l.initial.after ++ flat_map (λ source. map (that source) l.operands) (take l.source-index l.sources)
