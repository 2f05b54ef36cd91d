-- Which certificates are accepted, and at which entry another is refused first, and why.
use Rattle.std.specs.Prelude.{◌≡◌, ℤ, ℕ, suc, List, Some, None, Result, Ok, Err, slice_get}
use Rattle.pc_word.specs.declared.item.Limits.{Limits}
use Rattle.pc_word.specs.Row.{leaves_of}
use Rattle.pc_table.specs.Table.{Table}
use Rattle.pc_machine.specs.MachineCode.{CodeRow, RowCode}
use Rattle.pc_cert.specs.declared.certificate.Entry.{Entry}
use Rattle.pc_window.specs.Tree.{whole}
use Rattle.pc_window.specs.Unwinding.{front_tag}
use Rattle.pc_window.specs.WindowRun.{Window}
use Rattle.pc_window.specs.Steps.{opened_window, front_row}
use Rattle.pc_matching.specs.RowMatch.{row_match}
use Rattle.pc_certified.specs.Facts.{Fact}
use Rattle.pc_arranging.specs.Arranging.{Arranges}
use Rattle.pc_settling.specs.Remaining.{Remaining}
use Rattle.pc_settling.specs.Start.{facts_at_start}
use Rattle.pc_accepted.specs.declared.flaw.LeafFlaw.{LeafFlaw}
use Rattle.pc_accepted.specs.declared.flaw.Flaw.{Flaw}
use Rattle.pc_accepted.specs.declared.flaw.Flaw.TheVariants as flaw
use Rattle.pc_accepted.specs.declared.flaw.Rejection.{Rejection}
use Rattle.pc_accepted.specs.Arrivals.{Arrivals, FirstArrival, no_arrivals}
use Rattle.pc_accepted.specs.Leading.{Setting, Departure, LeafRefusal, Leads, AllLeadOn}

-- ---- one entry

-- a window with these limits
abbrev pub with_limits : Limits → Window → Window
with_limits limits w = record w { limits = limits }

-- an entry's row is left: with its rank, from its window
abbrev pub departure_of : Entry → FirstArrival → Departure
departure_of entry arrived = record { rank = entry.rank; tag = front_tag (whole arrived.window.front) }

-- an entry's row is there, its steps arrange its window, and the row does what the front does, so that these facts hold at the leaves
pub record IsDone (setting : Setting) (entry : Entry) (arrived : FirstArrival) (row : CodeRow) (arranged : Window) (helds : List (List Fact)) : Type 0 where
  pub there : slice_get setting.code.rows entry.row ≡ Some row
  pub arranges : Arranges setting.table entry.steps arrived.window arranged
  pub does : row_match arrived.facts row (front_row (λ tree. tree) arranged.front) ≡ Some helds

-- so the leaves of a row lead on from what is left of the arranged window, under the code's limits
abbrev pub LeavesLeadOn : (setting : Setting) → Entry → FirstArrival → CodeRow → (arranged : Window) → List (List Fact) → Arrivals → Result Arrivals LeafRefusal → Type 0
LeavesLeadOn setting entry arrived row arranged helds arrivals outcome =
    AllLeadOn setting (departure_of entry arrived) (with_limits setting.code.limits arranged) 0 arrivals helds (leaves_of row)
    (leaves_of (front_row (λ tree. tree) arranged.front)) outcome

-- what has arrived where, once an entry has passed; or the first reason against it
pub data Passes (setting : Setting) (number : ℕ) (entry : Entry) (arrivals : Arrivals) : Result Arrivals Flaw → Type 0 where
  not_reached : slice_get arrivals number ≡ Some None → Passes setting number entry arrivals (Err flaw.Unreached)
  has_no_row : {arrived : FirstArrival} → slice_get arrivals number ≡ Some (Some arrived) → slice_get setting.code.rows entry.row ≡ None
      → Passes setting number entry arrivals (Err flaw.NoRow)
  not_arranged : {arrived : FirstArrival} {row : CodeRow} → slice_get arrivals number ≡ Some (Some arrived) → slice_get setting.code.rows entry.row ≡ Some row
      → ((arranged : Window) → Arranges setting.table entry.steps arrived.window arranged → ⊥) → Passes setting number entry arrivals (Err flaw.IllegalStep)
  not_matched : {arrived : FirstArrival} {row : CodeRow} {arranged : Window} → slice_get arrivals number ≡ Some (Some arrived)
      → slice_get setting.code.rows entry.row ≡ Some row → Arranges setting.table entry.steps arrived.window arranged
      → row_match arrived.facts row (front_row (λ tree. tree) arranged.front) ≡ None → Passes setting number entry arrivals (Err flaw.OtherRow)
  leaf_refused : {arrived : FirstArrival} {row : CodeRow} {arranged : Window} {helds : List (List Fact)} {refusal : LeafRefusal}
      → slice_get arrivals number ≡ Some (Some arrived) → IsDone setting entry arrived row arranged helds
      → LeavesLeadOn setting entry arrived row arranged helds arrivals (Err refusal)
      → Passes setting number entry arrivals (Err (flaw.Leaf refusal.leaf refusal.why))
  passes_on : {arrived : FirstArrival} {row : CodeRow} {arranged : Window} {helds : List (List Fact)} {later : Arrivals}
      → slice_get arrivals number ≡ Some (Some arrived) → IsDone setting entry arrived row arranged helds
      → LeavesLeadOn setting entry arrived row arranged helds arrivals (Ok later) → Passes setting number entry arrivals (Ok later)

-- ---- all entries

-- the entries from a number on pass one after the other; or the first of them that is refused
pub data AllPass (setting : Setting) : (number : ℕ) → Arrivals → Result Arrivals Rejection → Type 0 where
  all_passed : {number : ℕ} {arrivals : Arrivals} → slice_get setting.entries number ≡ None → AllPass setting number arrivals (Ok arrivals)
  one_passed : {number : ℕ} {entry : Entry} {arrivals later : Arrivals} {outcome : Result Arrivals Rejection} → slice_get setting.entries number ≡ Some entry
      → Passes setting number entry arrivals (Ok later) → AllPass setting (suc number) later outcome → AllPass setting number arrivals outcome
  one_rejected : {number : ℕ} {entry : Entry} {arrivals : Arrivals} {why : Flaw} → slice_get setting.entries number ≡ Some entry
      → Passes setting number entry arrivals (Err why) → AllPass setting number arrivals (Err (record { entry = number; flaw = why }))

-- ---- a certificate

-- what is still to be done before row 0: the window of region 0, where all registers and variables are 0
abbrev pub at_start : Table → RowCode → Remaining
at_start table code = record { window = opened_window table code.limits 0; facts = facts_at_start code.registers }

-- a refusal of entry 0
abbrev pub at_first : Flaw → Rejection
at_first why = record { entry = 0; flaw = why }

-- a code has these arrays, which begin with these words
abbrev pub HasData : List ℕ → List (List ℤ) → RowCode → Type 0
HasData arrays words code = (code.arrays ≡ arrays) × (code.initial ≡ words)

-- where the start leads: to row 0
abbrev pub StartLeads : Setting → Result Arrivals LeafFlaw → Type 0
StartLeads setting outcome = Leads setting None (at_start setting.table setting.code) (no_arrivals setting.entries) 0 outcome

-- What is answered of a certificate, where the source is this table of regions, over arrays that begin with these words: what arrived at
-- the entries, each of which was reached and passed; or the first entry that is refused, and why.
pub data Answers (setting : Setting) (words : List (List ℤ)) : Result Arrivals Rejection → Type 0 where
  has_other_data : (HasData setting.table.arrays words setting.code → ⊥) → Answers setting words (Err (at_first flaw.OtherData))
  does_not_start : {why : LeafFlaw} → HasData setting.table.arrays words setting.code → StartLeads setting (Err why)
      → Answers setting words (Err (at_first (flaw.Start why)))
  starts : {arrivals : Arrivals} {outcome : Result Arrivals Rejection} → HasData setting.table.arrays words setting.code → StartLeads setting (Ok arrivals)
      → AllPass setting 0 arrivals outcome → Answers setting words outcome

-- by what a certificate's entries are gone through
abbrev pub setting_of : Table → RowCode → List Entry → Setting
setting_of table code entries = record { table = table; code = code; entries = entries }

-- a certificate is accepted
abbrev pub Accepts : Table → List (List ℤ) → RowCode → List Entry → Type 0
Accepts table words code entries = (arrivals : Arrivals) × Answers (setting_of table code entries) words (Ok arrivals)

-- a certificate is refused
abbrev pub Rejects : Table → List (List ℤ) → RowCode → List Entry → Rejection → Type 0
Rejects table words code entries rejection = Answers (setting_of table code entries) words (Err rejection)
