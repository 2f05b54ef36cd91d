use Rattle.std.proofs.Common.{◌≡◌, drop}
use Rattle.pc_compile.specs.models.Heading.{without_outer}
use Rattle.pc_compile.proofs.notes.leave_out_outer.Given as goal

-- what is left now, without the loops round those that come, is what is left in the end
abbrev pub invariant-loop-mark : goal.invariant-loop-mark
invariant-loop-mark l = without_outer l.heading.items (drop l.mark-index l.loops) ≡ without_outer l.fn.heading.items l.loops
