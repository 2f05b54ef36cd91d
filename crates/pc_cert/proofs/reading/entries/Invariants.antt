use Rattle.std.proofs.Common.{◌≡◌, ◌-◌}
use Rattle.pc_cert.specs.Reading.{many_at, entry_at}
use Rattle.pc_cert.proofs.ReadLists.{with_front}
use Rattle.pc_cert.proofs.reading.entries.Given as goal

abbrev pub invariant-loop : goal.invariant-loop
invariant-loop l = with_front l.entries.items (many_at entry_at (l.count - l.counter) l.rest) ≡ many_at entry_at l.count l.bytes
