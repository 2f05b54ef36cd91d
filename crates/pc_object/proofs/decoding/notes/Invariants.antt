use Rattle.std.proofs.Common.{◌≡◌, ◌-◌}
use Rattle.pc_object.specs.Reading.{notes_at}
use Rattle.pc_object.proofs.Loop.{with_front}
use Rattle.pc_object.proofs.decoding.notes.Given as goal

abbrev pub invariant-loop : goal.invariant-loop
invariant-loop l = with_front l.notes.items (notes_at (l.count - l.counter) l.rest) ≡ notes_at l.count l.bytes
