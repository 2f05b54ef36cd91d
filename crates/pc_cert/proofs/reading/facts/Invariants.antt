use Rattle.std.proofs.Common.{◌≡◌, ◌-◌}
use Rattle.pc_cert.specs.Reading.{many_at, counted_at, fact_at}
use Rattle.pc_cert.proofs.ReadLists.{with_front}
use Rattle.pc_cert.proofs.reading.facts.Given as goal

abbrev pub invariant-loop : goal.invariant-loop
invariant-loop l = with_front l.facts.items (many_at fact_at (l.count - l.counter) l.rest) ≡ counted_at fact_at l.bytes
