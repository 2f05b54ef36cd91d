use Rattle.std.proofs.Common.{◌≡◌, [], replicate}
use Rattle.pc_word.proofs.initial.no_data.Given as goal

-- as many arrays so far have no words
abbrev pub invariant-loop : goal.invariant-loop
invariant-loop l = l.lists ≡ replicate l.counter []
