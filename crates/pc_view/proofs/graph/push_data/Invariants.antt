use Rattle.std.proofs.Common.{◌≡◌, ◌++◌, drop, string_bytes}
use Rattle.pc_view.specs.Graph.{data_nodes}
use Rattle.pc_view.specs.Listing.{lines_text}
use Rattle.pc_view.proofs.graph.push_data.Given as goal

-- the text with the boxes of the arrays from here on is the text at the start with those of all arrays
abbrev pub invariant-loop-array : goal.invariant-loop-array
invariant-loop-array l =
    string_bytes l.text ++ lines_text (data_nodes l.array (drop l.array l.lists)) ≡ string_bytes l.initial.text ++ lines_text (data_nodes 0 l.lists)
