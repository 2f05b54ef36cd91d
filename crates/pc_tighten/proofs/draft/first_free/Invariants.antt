use Rattle.pc_tighten.specs.models.Drafts.{FirstStay}
use Rattle.pc_tighten.proofs.draft.first_free.Given as goal

abbrev pub invariant-loop-at : goal.invariant-loop-at
invariant-loop-at l = FirstStay l.limits l.above l.to l.under l.at
