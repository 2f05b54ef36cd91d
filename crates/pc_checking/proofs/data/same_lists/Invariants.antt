use Rattle.std.proofs.Common.{◌≡◌, take}
use Rattle.pc_checking.proofs.data.same_lists.Given as goal

-- the lists so far are equal
abbrev pub invariant-loop-at : goal.invariant-loop-at
invariant-loop-at l = take l.at l.lists ≡ take l.at l.others
