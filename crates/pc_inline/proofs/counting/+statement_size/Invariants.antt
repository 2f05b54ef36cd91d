use Rattle.std.proofs.Common.{take}
use Rattle.pc_syntax.specs.UnitErasure.{unit_list_of}
use Rattle.pc_calls.specs.Counted.{counted_list}
use Rattle.pc_inline.specs.models.Sized.{IsSize, seen}
use Rattle.pc_inline.proofs.counting.+statement_size.Given as goal

-- the statements so far
abbrev pub invariant-list_size-loop-item : goal.invariant-list_size-loop-item
invariant-list_size-loop-item l = IsSize l.total (counted_list (seen l.functions l.sizes) l.in_function (unit_list_of (take l.item-index l.items)))
