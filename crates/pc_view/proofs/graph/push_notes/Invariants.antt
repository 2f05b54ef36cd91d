use Rattle.std.proofs.Common.{◌≡◌, ◌++◌, drop, string_bytes}
use Rattle.pc_view.specs.Listing.{lines_text}
use Rattle.pc_view.specs.Graph.{note_nodes}
use Rattle.pc_view.proofs.graph.push_notes.Given as goal

-- the text with the boxes of the notes from here on is the text at the start with those of all notes
abbrev pub invariant-loop-number : goal.invariant-loop-number
invariant-loop-number l =
    string_bytes l.text ++ lines_text (note_nodes l.number (drop l.number l.notes))
    ≡ string_bytes l.initial.text ++ lines_text (note_nodes 0 l.notes)
