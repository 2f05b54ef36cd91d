use Rattle.std.proofs.Common.{length, ◌-◌, ◌≡◌, ◌≤◌, ◌+◌, drop}
use Rattle.pc_linear.specs.models.Places.{rank}
use Rattle.pc_linear.proofs.term.place_of.Given as goal

abbrev pub invariant-loop-place : goal.invariant-loop-place
invariant-loop-place l = (l.place + rank l.variable (drop l.place l.terms) ≡ rank l.variable l.terms) × (l.place ≤ length l.terms)

abbrev pub decreases-loop-place : goal.decreases-loop-place
decreases-loop-place l = length l.terms - l.place
