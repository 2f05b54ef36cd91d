use Rattle.std.proofs.Common.{◌≡◌, ◌++◌, map, take, string_bytes}
use Rattle.pc_report.specs.Report.{note_words}
use Rattle.pc_view.specs.Listing.{lines_text}
use Rattle.pc_view.proofs.listing.push_notes.Given as goal

-- the lines of the notes so far stand after the text
abbrev pub invariant-loop-note : goal.invariant-loop-note
invariant-loop-note l = string_bytes l.text ≡ string_bytes l.initial.text ++ lines_text (map note_words (take l.note-index l.notes))
