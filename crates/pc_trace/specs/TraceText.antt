-- The cycles of a run, a line each.
use Rattle.std.specs.Prelude.{ℕ, suc, Bool, true, false, List, [], ◌∷◌, ◌++◌, codes, Option, Some, None}
use Rattle.std.specs.Fmt.{decimal, signed_decimal}
use Rattle.std.specs.List.{flat_map}
use Rattle.pc_word.specs.declared.item.End.{End}
use Rattle.pc_machine.specs.MachineCode.{RowCode}
use Rattle.pc_machine.specs.MachineRun.{Cycle}
use Rattle.pc_view.specs.Listing.{lines_text}
use Rattle.pc_stat.specs.Summary.{last_words}
use Rattle.pc_trace.specs.declared.deed.Deed.{Deed}
use Rattle.pc_trace.specs.declared.deed.Deed.TheVariants.{Wrote, Took, Stored, Printed}
use Rattle.pc_trace.specs.Trace.{CycleDone, trace_of}

-- what an item did: `r5 = 12`, `read r5 = 12`, `a0[3] = 7` or `print 12`
abbrev pub deed_words : Deed → List ℕ
deed_words (Wrote register word) = codes "r" ++ (decimal register ++ (codes " = " ++ signed_decimal word))
deed_words (Took register word) = codes "read r" ++ (decimal register ++ (codes " = " ++ signed_decimal word))
deed_words (Stored array index word) =
    codes "a" ++ (decimal array ++ (codes "[" ++ (signed_decimal index ++ (codes "] = " ++ signed_decimal word))))
deed_words (Printed word) = codes "print " ++ signed_decimal word

-- the number of a cycle, and that of its row
unfoldable pub front_words : (number row : ℕ) → List ℕ
front_words number row = codes "cycle " ++ (decimal number ++ (codes ": row " ++ decimal row))

-- a side that was taken
abbrev pub side_part : Bool → List ℕ
side_part true = codes "; yes"
side_part false = codes "; no"

-- what an item did
abbrev pub deed_part : Deed → List ℕ
deed_part deed = codes "; " ++ deed_words deed

-- how the run ended, if it did
abbrev pub end_part : Option End → List ℕ
end_part (Some end) = codes "; " ++ last_words end
end_part None = []

-- a cycle, by its number: its row, the sides that were taken, what was done, and how the run ended, if it did
abbrev pub cycle_words : ℕ → CycleDone → List ℕ
cycle_words number cycle = front_words number cycle.row ++ (flat_map side_part cycle.sides ++ (flat_map deed_part cycle.deeds ++ end_part cycle.end))

-- cycles, numbered from `number` on
abbrev pub trace_lines : ℕ → List CycleDone → List (List ℕ)
trace_lines number [] = []
trace_lines number (cycle ∷ rest) = cycle_words number cycle ∷ trace_lines (suc number) rest

-- the text of the cycles of the run from a place, numbered from 1: at most n
abbrev pub trace_text : RowCode → ℕ → Cycle → List ℕ
trace_text code n start = lines_text (trace_lines 1 (trace_of code n start))
