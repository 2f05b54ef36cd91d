use Rattle.std.proofs.Common.{◌≡◌, drop, map}
use Rattle.pc_word.specs.Commit.{some_meet}
use Rattle.pc_vm.specs.models.Planned.{stored_of}
use Rattle.pc_vm.proofs.pending.any_meet.Given as goal

-- two stores meet where two of those that are left do
abbrev pub invariant-loop-at : goal.invariant-loop-at
invariant-loop-at l = some_meet (map stored_of l.stores) ≡ some_meet (map stored_of (drop l.at l.stores))
