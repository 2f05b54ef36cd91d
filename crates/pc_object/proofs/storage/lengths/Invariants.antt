use Rattle.std.proofs.Common.{◌≡◌, ◌-◌, ◌≤◌}
use Rattle.pc_object.specs.Reading.{lengths_at}
use Rattle.pc_object.proofs.Loop.{with_front}
use Rattle.pc_word.specs.MachineLimits.{most_elements}
use Rattle.pc_object.proofs.storage.lengths.Given as goal

abbrev pub invariant-loop : goal.invariant-loop
invariant-loop l = record {
  so_far : with_front l.lengths.items (lengths_at (l.count - l.counter) l.elements l.rest) ≡ lengths_at l.count 0 l.bytes;
  few : l.elements ≤ most_elements;
}
