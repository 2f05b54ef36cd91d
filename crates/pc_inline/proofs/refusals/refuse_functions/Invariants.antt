use Rattle.std.proofs.Common.{◌≡◌, [], map, reverse, take}
use Rattle.pc_syntax.specs.UnitErasure.{function_of}
use Rattle.pc_calls.specs.Refusals.{functions_refusals}
use Rattle.pc_inline.proofs.refusals.refuse_functions.Given as goal

-- the functions so far are not refused
abbrev pub invariant-loop-at : goal.invariant-loop-at
invariant-loop-at l = functions_refusals (reverse (map function_of (take l.at l.functions))) ≡ []
