use Rattle.std.proofs.Common.{◌≡◌, ◌++◌, replicate}
use Rattle.pc_lines.proofs.line_list.push_nodes.Given as goal

-- the line was appended as often as was counted
abbrev pub invariant-loop : goal.invariant-loop
invariant-loop l = l.lines ≡ l.initial.lines ++ replicate l.counter l.line
