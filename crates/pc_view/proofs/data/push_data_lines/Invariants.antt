use Rattle.std.proofs.Common.{◌≡◌, ◌++◌, drop, string_bytes}
use Rattle.pc_view.specs.DataLines.{data_lines}
use Rattle.pc_view.specs.Listing.{lines_text}
use Rattle.pc_view.proofs.data.push_data_lines.Given as goal

-- the text with the lines from here on is the text at the start with all of them
abbrev pub invariant-loop-place : goal.invariant-loop-place
invariant-loop-place l =
    string_bytes l.text ++ lines_text (data_lines l.array l.place (drop l.place l.words)) ≡ string_bytes l.initial.text ++ lines_text (data_lines l.array 0 l.words)
