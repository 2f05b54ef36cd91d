use Rattle.std.proofs.Common.{◌≡◌, [], replicate}
use Rattle.pc_object.proofs.storage.no_data.Given as goal

abbrev pub invariant-loop : goal.invariant-loop
invariant-loop l = l.lists.items ≡ replicate l.counter []
