use Rattle.std.proofs.Common.{◌≡◌, ◌++◌, drop, option_map, string_bytes}
use Rattle.pc_machine.specs.MachineCode.{rows_of}
use Rattle.pc_view.specs.Listing.{lines_text}
use Rattle.pc_view.specs.Graph.{row_graph}
use Rattle.pc_view.specs.Tally.{tallied}
use Rattle.pc_view.proofs.graph.push_rows.Given as goal

-- the text with the nodes and edges of the rows from here on is the text at the start with those of all rows
abbrev pub invariant-loop-number : goal.invariant-loop-number
invariant-loop-number l =
    string_bytes l.text ++ lines_text (row_graph (option_map tallied l.told) l.number (rows_of (drop l.number l.rows)))
    ≡ string_bytes l.initial.text ++ lines_text (row_graph (option_map tallied l.told) 0 (rows_of l.rows))
