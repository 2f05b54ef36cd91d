use Rattle.pc_proposing.specs.models.Drafts.{IsDraft}
use Rattle.pc_proposing.proofs.proposing.entries_of.Given as goal

-- the entries so far may be written
abbrev pub invariant-loop-at : goal.invariant-loop-at
invariant-loop-at l = IsDraft l.draft
