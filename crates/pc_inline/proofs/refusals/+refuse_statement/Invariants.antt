use Rattle.std.proofs.Common.{◌≡◌, [], map, reverse, take}
use Rattle.pc_syntax.specs.UnitErasure.{unit_list_of, function_of}
use Rattle.pc_calls.specs.Refusals.{arity, list_refusals}
use Rattle.pc_inline.proofs.refusals.+refuse_statement.Given as goal

-- the statements so far are not refused
abbrev pub invariant-refuse_list-loop-item : goal.invariant-refuse_list-loop-item
invariant-refuse_list-loop-item l =
    list_refusals (arity (reverse (map function_of l.functions))) l.in_function l.in_loop (unit_list_of (take l.item-index l.items)) ≡ []
