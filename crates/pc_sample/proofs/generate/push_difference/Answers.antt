use Rattle.std.proofs.Common.{append_assoc}
use Rattle.pc_sample.proofs.generate.push_difference.Goals as goal

pub returns : goal.returns
returns c = rw (append_assoc, append_assoc) c.writeln.ensures.bytes
