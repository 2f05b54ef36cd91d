use Rattle.std.proofs.Common.{◌≡◌, drop}
use Rattle.pc_cert.specs.Reading.{magic_at}
use Rattle.pc_cert.proofs.fields.magic.Given as goal

abbrev pub invariant-loop-byte : goal.invariant-loop-byte
invariant-loop-byte l = magic_at (drop l.byte-index l.magic) l.rest ≡ magic_at l.magic l.bytes
