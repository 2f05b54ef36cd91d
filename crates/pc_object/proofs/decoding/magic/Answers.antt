use Rattle.pc_object.specs.Reading.{magic_at}
use Rattle.pc_object.proofs.Loop.{magic_ends}
use Rattle.pc_object.proofs.decoding.magic.Goals as goal

pub returns-in_default : goal.returns-in_default
returns-in_default c = magic_ends c.args.magic.now c.loop-byte.byte-index c.loop-byte.rest.now
    (magic_at c.args.magic.now c.args.bytes.now) c.loop-byte-test.true c.in_default.len_below c.loop-byte.invariant
