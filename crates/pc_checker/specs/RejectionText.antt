-- The text by which the checker tells that a certificate is rejected.
use Rattle.std.specs.Prelude.{ℕ, Bool, if◌then◌else◌, List, [], ◌++◌, codes, Option, Some, None, option_map, slice_get}
use Rattle.std.specs.Fmt.{decimal}
use Rattle.pc_word.specs.Line.{line}
use Rattle.pc_machine.specs.MachineCode.{RowCode}
use Rattle.pc_cert.specs.declared.certificate.Entry.{Entry}
use Rattle.pc_view.specs.Listing.{row_text}
use Rattle.pc_accepted.specs.declared.flaw.LeafFlaw.{LeafFlaw}
use Rattle.pc_accepted.specs.declared.flaw.LeafFlaw.TheVariants.{OtherEnd, NoEntry, NoBeginning, NoParameter, NoArrival, NoProgress}
use Rattle.pc_accepted.specs.declared.flaw.Flaw.{Flaw}
use Rattle.pc_accepted.specs.declared.flaw.Flaw.TheVariants as flaw
use Rattle.pc_accepted.specs.declared.flaw.Rejection.{Rejection}

-- ---- the reason in words

-- why what is left does not lead on
abbrev pub leaf_flaw_text : LeafFlaw → List ℕ
leaf_flaw_text OtherEnd = codes "the row ends, and what is left does not end so"
leaf_flaw_text NoEntry = codes "no entry speaks of the row that comes next"
leaf_flaw_text NoBeginning = codes "the next entry cannot begin with what is left"
leaf_flaw_text NoParameter = codes "a fact of the next entry names a parameter that its window has not"
leaf_flaw_text NoArrival = codes "what is left is not the window of the next entry, or a fact of that entry does not hold"
leaf_flaw_text NoProgress = codes "the next entry has no smaller rank, and there is no other progress"

-- why an entry is refused
abbrev pub flaw_text : Flaw → List ℕ
flaw_text flaw.OtherData = codes "the arrays or their words are not those of the source"
flaw_text (flaw.Start why) = codes "at the start, " ++ leaf_flaw_text why
flaw_text flaw.Unreached = codes "nothing before it leads to the entry, or an earlier entry speaks of its row"
flaw_text flaw.NoRow = codes "the object has no such row"
flaw_text flaw.IllegalStep = codes "a step is not legal, or makes a window too large"
flaw_text flaw.OtherRow = codes "the row does not do what the front of the window does"
flaw_text (flaw.Leaf leaf why) = codes "at leaf " ++ (decimal leaf ++ (codes " of the row, counted from 0, " ++ leaf_flaw_text why))

-- ---- the row

-- the row of which an entry speaks, if there is an entry with this number
abbrev pub row_of_entry : List Entry → ℕ → Option ℕ
row_of_entry entries number = option_map (λ entry. entry.row) (slice_get entries number)

-- which row it is, if there is one
abbrev pub row_words : Option ℕ → List ℕ
row_words (Some row) = codes ", row " ++ decimal row
row_words None = []

-- the row that a reason speaks of: that of the entry, but the data and the start are those of no row
abbrev pub row_of_reason : Flaw → Option ℕ → Option ℕ
row_of_reason flaw.OtherData row = None
row_of_reason (flaw.Start why) row = None
row_of_reason flaw.Unreached row = row
row_of_reason flaw.NoRow row = row
row_of_reason flaw.IllegalStep row = row
row_of_reason flaw.OtherRow row = row
row_of_reason (flaw.Leaf leaf why) row = row

-- the listing of the row, where the code has it
abbrev pub row_listing : RowCode → Option ℕ → List ℕ
row_listing code (Some row) = row_text code row
row_listing code None = []

-- ---- the text

-- the first line: which entry is refused, and of which row it speaks
abbrev pub rejected_line : (row : Option ℕ) → (entry : ℕ) → List ℕ
rejected_line row entry = line (codes "pcheck: rejected at entry " ++ (decimal entry ++ row_words row))

-- why it is refused, and the listing of the row that this speaks of
abbrev pub reason_text : RowCode → (row : Option ℕ) → Flaw → List ℕ
reason_text code row why = line (codes "pcheck: " ++ flaw_text why) ++ row_listing code (row_of_reason why row)

-- the text of a rejection, with the reason where it is asked for
abbrev pub rejection_text : (asked : Bool) → RowCode → List Entry → Rejection → List ℕ
rejection_text asked code entries rejection =
    rejected_line (row_of_entry entries rejection.entry) rejection.entry
    ++ (if asked then reason_text code (row_of_entry entries rejection.entry) rejection.flaw else [])
