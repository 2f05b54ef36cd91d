-- The report of a compilation.
use Rattle.std.specs.Prelude.{ℕ, List, [], ◌∷◌, ◌++◌, map, codes, slice_get, unwrap_or}
use Rattle.std.specs.List.{flat_map}
use Rattle.std.specs.Fmt.{decimal}
use Rattle.pc_object.specs.declared.object.Note.{Note}
use Rattle.pc_report.specs.declared.report.PassFact.{PassFact}
use Rattle.pc_report.specs.declared.report.ReportFacts.{ReportFacts}
use Rattle.pc_word.specs.Line.{line}

-- a pass over the flow graph: its name, and how many changes it made
pub record PassCount : Type 0 where
  pub name : List ℕ
  pub changes : ℕ

-- what is reported: how many nodes the flow graph has and how many rows the code, the passes, and the notes on the loops
pub record Report : Type 0 where
  pub nodes : ℕ
  pub rows : ℕ
  pub passes : List PassCount
  pub notes : List Note

-- a pass, without the place where its name lies in memory
abbrev pub pass_of : PassFact → PassCount
pass_of pass = record { name = pass.name.now; changes = pass.changes }

-- what is reported, without the places where it lies in memory
abbrev pub report_of : ReportFacts → Report
report_of facts =
    record {
      nodes = facts.nodes;
      rows = facts.rows;
      passes = map pass_of facts.passes.now;
      notes = facts.notes.now;
    }

-- the form of a loop and what decided it, for each choice that a note may have, from 0 to 7
abbrev pub choice_texts : List (List ℕ)
choice_texts =
    codes "pipelined, rows"
    ∷ codes "packed, rows" ∷ codes "packed, live" ∷ codes "packed, bytes" ∷ codes "packed, window"
    ∷ codes "plain, rows" ∷ codes "plain, live" ∷ codes "plain, bytes" ∷ []

-- those of one choice
abbrev pub choice_text : ℕ → List ℕ
choice_text choice = unwrap_or (slice_get choice_texts choice) []

-- the line of a pass
abbrev pub pass_line : PassCount → List ℕ
pass_line pass = line (codes "pass " ++ (pass.name ++ (codes " " ++ decimal pass.changes)))

-- a note in words: the line of the loop's keyword, its form and what decided it, and the number that was met of the number that is
-- allowed
abbrev pub note_words : Note → List ℕ
note_words note =
    codes "loop " ++ (decimal note.line ++ (codes ": " ++ (choice_text note.choice
    ++ (codes " " ++ (decimal note.number ++ (codes " of " ++ decimal note.limit))))))

-- the line of a loop
abbrev pub note_line : Note → List ℕ
note_line note = line (note_words note)

-- the lines of a report
abbrev pub report_lines : Report → List ℕ
report_lines report =
    line (codes "nodes " ++ decimal report.nodes)
    ++ (line (codes "rows " ++ decimal report.rows)
    ++ (flat_map pass_line report.passes
    ++ flat_map note_line report.notes))
