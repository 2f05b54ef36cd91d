use Rattle.std.proofs.Common.{◌≡◌, ◌++◌, map, take, string_bytes}
use Rattle.pc_view.specs.Listing.{lines_text}
use Rattle.pc_stat.specs.Summary.{row_line}
use Rattle.pc_stat.proofs.lines.push_busiest.Given as goal

-- the lines of the rows so far stand after the text
abbrev pub invariant-loop-row : goal.invariant-loop-row
invariant-loop-row l = string_bytes l.text ≡ string_bytes l.initial.text ++ lines_text (map (row_line l.cycles) (take l.row-index l.rows))
