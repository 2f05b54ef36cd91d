use Rattle.std.proofs.Common.{◌≡◌, ◌-◌}
use Rattle.pc_object.specs.Reading.{words_at}
use Rattle.pc_object.proofs.Loop.{with_front}
use Rattle.pc_object.proofs.storage.words.Given as goal

abbrev pub invariant-loop-place : goal.invariant-loop-place
invariant-loop-place l = with_front l.words.items (words_at (l.count - l.place) l.rest) ≡ words_at l.count l.bytes
