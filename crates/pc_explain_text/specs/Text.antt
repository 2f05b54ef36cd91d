-- The explanations of loops as a text to be read.
use Rattle.std.specs.Prelude.{ℕ, List, [], ◌∷◌, ◌++◌, map, Option, Some, None}
use Rattle.std.specs.List.{flat_map}
use Rattle.pc_word.specs.declared.item.Limits.{Limits}
use Rattle.pc_report.specs.Report.{note_words}
use Rattle.pc_view.specs.Listing.{lines_text}
use Rattle.pc_explain.specs.Legends.{SourceLegend}
use Rattle.pc_explain.specs.Words.{no_loop_words}
use Rattle.pc_explain.specs.Explained.{LoopSchedule, Explanation}
use Rattle.pc_explain.specs.EachState.{each_state, explained_states}
use Rattle.pc_explain_text.specs.StateLines.{state_lines}
use Rattle.pc_explain_text.specs.CycleLines.{cycle_lines}

-- the lines of the schedule of a loop, if there is one: its cycles, and its states
abbrev pub schedule_lines : Limits → SourceLegend → (header : ℕ) → Option LoopSchedule → List (List ℕ)
schedule_lines limits legend header None = []
schedule_lines limits legend header (Some schedule) =
    flat_map (cycle_lines legend.lines schedule.states schedule.tellings) schedule.cycles
    ++ each_state (state_lines limits legend header) 0 (explained_states schedule)

-- the lines of a loop: its note, and its schedule
abbrev pub explanation_lines : Limits → SourceLegend → Explanation → List (List ℕ)
explanation_lines limits legend it = map note_words it.notes ++ schedule_lines limits legend it.region it.schedule

-- a line that says so where there is no explanation
abbrev pub no_loop_lines : (asked : Option ℕ) → List Explanation → List (List ℕ)
no_loop_lines asked [] = no_loop_words asked ∷ []
no_loop_lines asked (it ∷ rest) = []

-- the lines of loops, or that there are none
abbrev pub explanation_text : Limits → SourceLegend → (asked : Option ℕ) → List Explanation → List ℕ
explanation_text limits legend asked explanations =
    lines_text (no_loop_lines asked explanations ++ flat_map (explanation_lines limits legend) explanations)
