use Rattle.std.proofs.Common.{take}
use Rattle.pc_regions.specs.models.Marks.{Marks}
use Rattle.pc_regions.proofs.heads.mark_heads.Given as goal

abbrev pub invariant-loop-header : goal.invariant-loop-header
invariant-loop-header l = Marks l.fn.marks l.marks l.flow.entry (take l.header-index l.headers)
