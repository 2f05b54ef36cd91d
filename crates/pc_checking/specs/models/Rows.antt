-- The entries of rows, from the last entry on.
use Rattle.std.specs.Prelude.{◌≡◌, ℕ, ◌+◌, ◌<◌, List, length, Option, Some, None, slice_get}
use Rattle.pc_cert.specs.declared.certificate.Entry.{Entry}
use Rattle.pc_accepted.specs.Arrivals.{entry_number}

-- a number of so many more, if there is one
abbrev pub numbered_from : ℕ → Option ℕ → Option ℕ
numbered_from n None = None
numbered_from n (Some number) = Some (n + number)

-- a list by row tells the first of these entries that speaks of it, where so many stand before them
abbrev pub TellFirst : List Entry → ℕ → List (Option ℕ) → Type 0
TellFirst entries n firsts = (row : ℕ) → row < length firsts → slice_get firsts row ≡ Some (numbered_from n (entry_number entries row))

-- a list by row tells the first of these entries that speaks of it
abbrev pub AreFirst : List Entry → List (Option ℕ) → Type 0
AreFirst entries firsts = (row : ℕ) → row < length firsts → slice_get firsts row ≡ Some (entry_number entries row)
