use Rattle.std.proofs.Common.{◌≡◌, drop}
use Rattle.pc_object.specs.Reading.{each_data_at}
use Rattle.pc_object.proofs.Loop.{with_front}
use Rattle.pc_object.proofs.storage.each_data.Given as goal

abbrev pub invariant-loop-length : goal.invariant-loop-length
invariant-loop-length l = with_front l.lists.items (each_data_at (drop l.length-index l.lengths) l.rest) ≡ each_data_at l.lengths l.bytes
