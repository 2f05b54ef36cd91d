-- The parts of what an entry passes, as code does them.
use Rattle.std.specs.Prelude.{◌≡◌, ℕ, ℤ, true, false, List, Option, Some, None, Result, Ok, Err, MatchResult}
use Rattle.pc_table.specs.Table.{Table}
use Rattle.pc_machine.specs.MachineCode.{CodeRow}
use Rattle.pc_machine.specs.declared.tree.Leaf.{Leaf}
use Rattle.pc_cert.specs.declared.certificate.Entry.{Entry}
use Rattle.pc_cert.specs.declared.certificate.Step.{Step}
use Rattle.pc_window.specs.Tree.{Tree}
use Rattle.pc_window.specs.WindowRun.{Window}
use Rattle.pc_window.specs.Steps.{front_row}
use Rattle.pc_window.specs.StoredWindow.{window_in}
use Rattle.pc_certified.specs.Facts.{Fact}
use Rattle.pc_matching.specs.Facts.{helds_of}
use Rattle.pc_matching.specs.RowMatch.{row_match}
use Rattle.pc_arranging.specs.Arranging.{Arranges}
use Rattle.pc_settling.specs.Remaining.{Remaining}
use Rattle.pc_settling.specs.Begun.{Begun, BeginsWith}
use Rattle.pc_settling.specs.Arrives.{Arrives}
use Rattle.pc_accepted.specs.declared.flaw.LeafFlaw.{LeafFlaw}
use Rattle.pc_accepted.specs.declared.flaw.LeafFlaw.TheVariants.{NoArrival, NoProgress}
use Rattle.pc_accepted.specs.declared.flaw.Flaw.{Flaw}
use Rattle.pc_accepted.specs.declared.flaw.Flaw.TheVariants.{IllegalStep, OtherRow}
use Rattle.pc_accepted.specs.declared.flaw.Rejection.{Rejection}
use Rattle.pc_accepted.specs.Arrivals.{Arrivals, FirstArrival, IsEntryOf}
use Rattle.pc_accepted.specs.Leading.{Setting, Departure, LeafRefusal, has_progress, Leads, AllLeadOn}
use Rattle.pc_accepted.specs.Accepted.{AllPass, HasData, Answers}
use Rattle.pc_checking.specs.declared.arranged.Arranged as stored_arranged

-- whether what an entry begins with meets what arrived first there: it arrives, with progress; or why it does not
pub data Meets (departure : Option Departure) (begun : Begun) (entry : Entry) (arrived : FirstArrival) : Result (Unit {0}) LeafFlaw → Type 0 where
  arrives_not : (Arrives begun.window begun.facts arrived.window arrived.facts → ⊥) → Meets departure begun entry arrived (Err NoArrival)
  stands_still : Arrives begun.window begun.facts arrived.window arrived.facts → has_progress departure begun entry ≡ false
      → Meets departure begun entry arrived (Err NoProgress)
  goes_on : {done : Unit {0}} → Arrives begun.window begun.facts arrived.window arrived.facts → has_progress departure begun entry ≡ true
      → Meets departure begun entry arrived (Ok done)

-- what an entry begins with leads to the entry of this number, whatever row leads there and whatever was left
abbrev pub LeadsTo : Setting → Option Departure → Begun → (number : ℕ) → Arrivals → Result Arrivals LeafFlaw → Type 0
LeadsTo setting departure begun number arrivals outcome =
    (row : ℕ) (entry : Entry) (left : Remaining) → IsEntryOf setting.entries row number entry
    → BeginsWith setting.table setting.code.limits entry.opening left begun → Leads setting departure left arrivals row outcome

-- a window arranged by steps, with the facts at the leaves of a row that does what its front does; or why there is none
pub data ArrangesFor (table : Table) (steps : List Step) (arrived : FirstArrival) (row : CodeRow) : Result stored_arranged.Arranged Flaw → Type 0 where
  is_illegal : ((w : Window) → Arranges table steps arrived.window w → ⊥) → ArrangesFor table steps arrived row (Err IllegalStep)
  is_other : {w : Window} → Arranges table steps arrived.window w → row_match arrived.facts row (front_row (λ tree. tree) w.front) ≡ None
      → ArrangesFor table steps arrived row (Err OtherRow)
  is_arranged : {arranged : stored_arranged.Arranged} → Arranges table steps arrived.window (window_in arranged.window)
      → row_match arrived.facts row (front_row (λ tree. tree) (window_in arranged.window).front) ≡ Some (helds_of arranged.helds)
      → ArrangesFor table steps arrived row (Ok arranged)

-- what comes of the leaves from a number on, with these arrivals, comes of all of them
abbrev pub LeavesGoOn : (setting : Setting) → Departure → (arranged : Window) → Arrivals → List (List Fact) → List Leaf → List Tree
    → (number : ℕ) → Arrivals → List (List Fact) → List Leaf → List Tree → Type 0
LeavesGoOn setting departure arranged first helds leaves rests number arrivals more_helds more_leaves more_rests =
    (outcome : Result Arrivals LeafRefusal) → AllLeadOn setting departure arranged number arrivals more_helds more_leaves more_rests outcome
    → AllLeadOn setting departure arranged 0 first helds leaves rests outcome

-- what comes of the entries from a number on, with these arrivals, comes of all of them
abbrev pub EntriesGoOn : (setting : Setting) → Arrivals → (number : ℕ) → Arrivals → Type 0
EntriesGoOn setting first number arrivals =
    (outcome : Result Arrivals Rejection) → AllPass setting number arrivals outcome → AllPass setting 0 first outcome

-- where a code has the data of the source, all entries pass, or the first that is refused is told
abbrev pub GoesThrough : {U : Type 0} → Setting → Result U Rejection → Type 0
GoesThrough setting outcome =
    (words : List (List ℤ)) → HasData setting.table.arrays words setting.code
    → MatchResult outcome (λ _. (arrivals : Arrivals) × Answers setting words (Ok arrivals)) (λ rejection. Answers setting words (Err rejection))
