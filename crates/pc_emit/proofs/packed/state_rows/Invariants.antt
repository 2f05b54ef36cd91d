use Rattle.pc_emit.proofs.States.{StatesSoFar}
use Rattle.pc_emit.proofs.packed.state_rows.Given as goal

-- the rows of the states before this one were made
abbrev pub invariant-loop-state : goal.invariant-loop-state
invariant-loop-state l = StatesSoFar l.plan l.site l.initial.output l.output l.state
