use Rattle.std.proofs.Common.{map, take}
use Rattle.pc_syntax.specs.Erasure.{expression_of}
use Rattle.pc_calls.specs.Counted.{arguments_size}
use Rattle.pc_inline.specs.models.Sized.{IsSize}
use Rattle.pc_inline.proofs.counting.arguments_size.Given as goal

-- the arguments so far
abbrev pub invariant-loop-at : goal.invariant-loop-at
invariant-loop-at l = IsSize l.total (arguments_size l.count (map expression_of (take l.at l.arguments)))
