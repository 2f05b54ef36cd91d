use Rattle.std.proofs.Common.{◌≡◌, take}
use Rattle.pc_syntax.specs.UnitErasure.{unit_list_of}
use Rattle.pc_syntax.proofs.statement.+copy_statement.Given as goal

-- the copies so far stand for the statements so far
abbrev pub invariant-copy_list-loop-item : goal.invariant-copy_list-loop-item
invariant-copy_list-loop-item l = unit_list_of l.copies ≡ unit_list_of (take l.item-index l.from)
