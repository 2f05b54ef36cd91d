use Rattle.std.proofs.Common.{◌≡◌, ◌++◌, take}
use Rattle.pc_syntax.specs.Erasure.{list_of}
use Rattle.pc_lines.specs.Lines.{list_lines}
use Rattle.pc_lines.proofs.statement.+push_statement.Given as goal

-- the lines of the statements so far were appended
abbrev pub invariant-push_list-loop-item : goal.invariant-push_list-loop-item
invariant-push_list-loop-item l = l.lines ≡ l.initial.lines ++ list_lines (list_of (take l.item-index l.items))
