use Rattle.std.proofs.Common.{◌≡◌, drop}
use Rattle.pc_linear.specs.models.Powers.{common_twos}
use Rattle.pc_linear.proofs.sum.common_twos.Given as goal

-- what is left lowers the count so far to the whole list's
abbrev pub invariant-loop-term : goal.invariant-loop-term
invariant-loop-term l = common_twos l.common (drop l.term-index l.terms) ≡ common_twos 32 l.terms
