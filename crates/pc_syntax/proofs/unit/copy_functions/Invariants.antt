use Rattle.std.proofs.Common.{◌≡◌, map, take}
use Rattle.pc_syntax.specs.UnitErasure.{function_of}
use Rattle.pc_syntax.proofs.unit.copy_functions.Given as goal

-- the copies so far stand for the functions so far
abbrev pub invariant-loop-function : goal.invariant-loop-function
invariant-loop-function l = map function_of l.copies ≡ map function_of (take l.function-index l.from)
