-- What a run cost, in lines.
use Rattle.std.specs.Prelude.{ℕ, ◌*◌, Bool, not, nat_eq, List, [], ◌∷◌, ◌++◌, codes, length, map, Option, Some, None}
use Rattle.std.specs.List.{count_by}
use Rattle.std.specs.Fmt.{decimal}
use Rattle.pc_word.specs.declared.item.End.{End}
use Rattle.pc_word.specs.declared.item.End.TheVariants.{Ended, Trapped, Fault}
use Rattle.pc_word.specs.declared.item.Limits.{Limits}
use Rattle.pc_machine.specs.MachineCode.{RowCode}
use Rattle.pc_report.specs.FaultLine.{machine_fault_text, trap_text}
use Rattle.pc_count.specs.Counts.{RunProfile}
use Rattle.pc_count.specs.Work.{copy_cycles, work_of}
use Rattle.pc_count.specs.declared.work.Work.{Work}
use Rattle.pc_view.specs.Listing.{lines_text}
use Rattle.pc_view.specs.Tally.{hundredths_words, part_of}
use Rattle.pc_stat.specs.Busiest.{busiest}
use Rattle.pc_stat.specs.declared.ranking.RowCount.{RowCount}

-- ---- the end

-- how a run ended
unfoldable pub last_words : End → List ℕ
last_words Ended = codes "stop"
last_words (Trapped kind line) = codes "trap: " ++ (trap_text kind ++ (codes " at line " ++ decimal line))
last_words (Fault fault) = codes "machine fault: " ++ machine_fault_text fault

-- that, or that it took all the cycles that it might
unfoldable pub end_words : Option End → List ℕ
end_words (Some end) = last_words end
end_words None = codes "budget of cycles spent"

-- ---- lines

-- a number of things
unfoldable pub count_line : List ℕ → ℕ → List ℕ
count_line name count = name ++ (codes ": " ++ decimal count)

-- that, and how many of them a cycle did on average, cut off
unfoldable pub rate_words : (count cycles : ℕ) → List ℕ
rate_words count cycles = codes "; " ++ (hundredths_words (part_of 100 count cycles) ++ codes " a cycle")

-- that, and how much this is, in per cent and cut off, of so many that a row may have
unfoldable pub use_words : (count cycles most : ℕ) → List ℕ
use_words count cycles most =
    codes "; " ++ (hundredths_words (part_of 10000 count (cycles * most)) ++ (codes " % of " ++ (decimal most ++ codes " in a row")))

-- a number of things of which a row may have so many
unfoldable pub used_line : List ℕ → (count cycles most : ℕ) → List ℕ
used_line name count cycles most = count_line name count ++ (rate_words count cycles ++ use_words count cycles most)

-- whether a row ran
abbrev pub has_run : ℕ → Bool
has_run cycles = not (nat_eq cycles 0)

-- how many of the rows ran
unfoldable pub rows_line : List ℕ → List ℕ
rows_line counts = codes "rows that ran: " ++ (decimal (count_by has_run counts) ++ (codes " of " ++ decimal (length counts)))

-- what part of the cycles these are, in per cent and cut off
unfoldable pub share_words : (some all : ℕ) → List ℕ
share_words some all = codes "; " ++ (hundredths_words (part_of 10000 some all) ++ codes " %")

-- how many cycles did nothing but copies
unfoldable pub copies_line : (copies cycles : ℕ) → List ℕ
copies_line copies cycles = count_line (codes "cycles that did nothing but copies") copies ++ share_words copies cycles

-- how often a row ran
unfoldable pub row_line : ℕ → RowCount → List ℕ
row_line cycles row = codes "row " ++ (decimal row.number ++ (codes " ran: " ++ (decimal row.cycles ++ share_words row.cycles cycles)))

-- how many rows ran, and those that ran most often
abbrev pub rows_lines : ℕ → List ℕ → List (List ℕ)
rows_lines cycles counts = rows_line counts ∷ map (row_line cycles) (busiest counts)

-- what the cycles did of which a row may have so much
abbrev pub use_lines : Limits → ℕ → Work → List (List ℕ)
use_lines limits cycles work =
    used_line (codes "items") work.items cycles limits.ops
    ∷ used_line (codes "tests passed") work.tests cycles limits.tests
    ∷ used_line (codes "loads and stores") work.memory cycles limits.mem
    ∷ []

-- what the cycles did
abbrev pub work_lines : Limits → ℕ → Work → List (List ℕ)
work_lines limits cycles work =
    use_lines limits cycles work ++ (count_line (codes "prints") work.prints ∷ count_line (codes "reads") work.reads ∷ [])

-- what a run of a code cost: its cycles and its end; what the cycles did, and how many copied alone; how many rows ran, and those that
-- ran most often
abbrev pub summary_lines : RowCode → RunProfile → List (List ℕ)
summary_lines code profile =
    count_line (codes "cycles") profile.cycles
    ∷ (codes "ended by: " ++ end_words profile.end)
    ∷ (work_lines code.limits profile.cycles (work_of code.rows profile.leaves)
    ++ (copies_line (copy_cycles code.rows profile.rows) profile.cycles ∷ rows_lines profile.cycles profile.rows))

-- its text
abbrev pub summary_text : RowCode → RunProfile → List ℕ
summary_text code profile = lines_text (summary_lines code profile)
