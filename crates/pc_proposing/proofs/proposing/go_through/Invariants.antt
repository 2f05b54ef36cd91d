use Rattle.pc_proposing.specs.models.Leaving.{AllLeft}
use Rattle.pc_proposing.proofs.proposing.go_through.Given as goal

-- what was left where rows were reached is left to do
abbrev pub invariant-loop : goal.invariant-loop
invariant-loop l = AllLeft l.stands
