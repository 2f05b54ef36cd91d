use Rattle.pc_emit.proofs.Emits.{RegionsSoFar}
use Rattle.pc_emit.proofs.emission.all_rows.Given as goal

-- the rows of the regions before this one were made
abbrev pub invariant-loop-region : goal.invariant-loop-region
invariant-loop-region l = RegionsSoFar l.plan l.initial.output l.output l.region
