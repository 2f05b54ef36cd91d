use Rattle.pc_cert.specs.Reading.{magic_at}
use Rattle.pc_cert.proofs.ReadLists.{magic_ends}
use Rattle.pc_cert.proofs.fields.magic.Goals as goal

pub returns-in_default : goal.returns-in_default
returns-in_default c = magic_ends c.args.magic.now c.loop-byte.byte-index c.loop-byte.rest.now
    (magic_at c.args.magic.now c.args.bytes.now) c.loop-byte-test.true c.in_default.len_below c.loop-byte.invariant
