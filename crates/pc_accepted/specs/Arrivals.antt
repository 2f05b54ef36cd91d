-- What arrived first at each entry of a certificate, while the entries are gone through.
use Rattle.std.specs.Prelude.{◌≡◌, ℕ, suc, nat_eq, if◌then◌else◌, List, [], ◌∷◌, map, Option, Some, None, slice_get}
use Rattle.pc_cert.specs.declared.certificate.Entry.{Entry}
use Rattle.pc_window.specs.Tree.{whole}
use Rattle.pc_window.specs.WindowRun.{Window}
use Rattle.pc_renumber.specs.Renumbering.{renumbered}
use Rattle.pc_certified.specs.Facts.{Fact}
use Rattle.pc_settling.specs.Arrives.{facts_of_entry}

-- what an entry stands for: the window that arrived first, and the entry's facts on its names
pub record FirstArrival : Type 0 where
  pub window : Window
  pub facts : List Fact

-- for each entry what arrived first, if anything has arrived
abbrev pub Arrivals : Type 0
Arrivals = List (Option FirstArrival)

-- before anything has arrived
abbrev pub no_arrivals : List Entry → Arrivals
no_arrivals entries = map (λ entry. None) entries

-- ---- the entry of a row

-- the number after this one, if there is one
abbrev pub next_number : Option ℕ → Option ℕ
next_number None = None
next_number (Some number) = Some (suc number)

-- the number of the first entry that speaks of a row, if there is one
abbrev pub entry_number : List Entry → (row : ℕ) → Option ℕ
entry_number [] row = None
entry_number (entry ∷ entries) row = if nat_eq entry.row row then Some 0 else next_number (entry_number entries row)

-- a row's entry, with its number
pub record IsEntryOf (entries : List Entry) (row number : ℕ) (entry : Entry) : Type 0 where
  pub first : entry_number entries row ≡ Some number
  pub there : slice_get entries number ≡ Some entry

-- ---- what an entry stands for

-- a window with facts, if there are facts
abbrev pub arrival_with : Window → Option (List Fact) → Option FirstArrival
arrival_with w None = None
arrival_with w (Some facts) = Some (record { window = w; facts = facts })

-- what an entry stands for once it begins with a window: what arrived before; or else this window with its names numbered anew, and
-- the entry's facts on them, if it has so many parameters
abbrev pub first_arrival : Option FirstArrival → Window → Entry → Option FirstArrival
first_arrival (Some arrived) w entry = Some arrived
first_arrival None w entry = arrival_with (renumbered w) (facts_of_entry (whole (renumbered w).front) entry.facts)
