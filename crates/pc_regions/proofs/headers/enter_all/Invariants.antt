use Rattle.std.proofs.Common.{take}
use Rattle.pc_regions.specs.models.Entering.{AreHeadersFrom}
use Rattle.pc_regions.proofs.headers.enter_all.Given as goal

abbrev pub invariant-loop-from : goal.invariant-loop-from
invariant-loop-from l = AreHeadersFrom l.flow (take l.from-index l.reachable) l.headers
