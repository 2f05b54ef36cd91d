use Rattle.pc_count.proofs.Works.{SoFar}
use Rattle.pc_count.proofs.work.rows_work.Given as goal

-- what the rows so far did
abbrev pub invariant-loop-number : goal.invariant-loop-number
invariant-loop-number l = SoFar l.rows l.leaves l.number l.work
