use Rattle.std.proofs.Common.{◌≡◌, map, take}
use Rattle.pc_syntax.specs.Erasure.{expression_of}
use Rattle.pc_syntax.proofs.expression.copy_expressions.Given as goal

-- the copies so far stand for the expressions so far
abbrev pub invariant-loop-item : goal.invariant-loop-item
invariant-loop-item l = map expression_of l.copies ≡ map expression_of (take l.item-index l.from)
