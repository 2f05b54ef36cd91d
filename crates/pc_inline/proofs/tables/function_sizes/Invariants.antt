use Rattle.std.proofs.Common.{take}
use Rattle.pc_inline.specs.models.Sized.{AreSizes}
use Rattle.pc_inline.proofs.tables.function_sizes.Given as goal

-- the functions so far are counted
abbrev pub invariant-loop-at : goal.invariant-loop-at
invariant-loop-at l = AreSizes (take l.at l.functions) l.sizes
