use Rattle.std.proofs.Common.{◌≡◌, ◌++◌, take, string_bytes}
use Rattle.std.specs.List.{flat_map}
use Rattle.pc_report.specs.Report.{note_line}
use Rattle.pc_report.proofs.report.push_notes.Given as goal

-- the lines of the notes so far stand after the text
abbrev pub invariant-loop-note : goal.invariant-loop-note
invariant-loop-note l =
    string_bytes l.text ≡ string_bytes l.initial.text ++ flat_map note_line (take l.note-index l.notes)
