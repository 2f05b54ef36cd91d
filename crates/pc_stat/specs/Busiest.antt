-- The rows that ran most often.
use Rattle.std.specs.Prelude.{ℕ, suc, if◌then◌else◌, nat_eq, nat_lt, List, [], ◌∷◌, insert, take}
use Rattle.std.specs.List.{position_or_len}
use Rattle.pc_stat.specs.declared.ranking.RowCount.{RowCount}

-- how many rows are told
abbrev pub most_told : ℕ
most_told = 10

-- such rows with a row besides, put in front of the first that ran less often
abbrev pub with_row : RowCount → List RowCount → List RowCount
with_row row rows = insert rows (position_or_len (λ other. nat_lt other.cycles row.cycles) rows) row

-- of these rows the busiest, with a row besides, if it ran
abbrev pub busier : RowCount → List RowCount → List RowCount
busier row rows = if nat_eq row.cycles 0 then rows else take most_told (with_row row rows)

-- of these rows and those with these counts, which are numbered from `number` on, the busiest
abbrev pub busiest_of : List RowCount → ℕ → List ℕ → List RowCount
busiest_of rows number [] = rows
busiest_of rows number (cycles ∷ counts) = busiest_of (busier (record { number = number; cycles = cycles }) rows) (suc number) counts

-- the ten rows that ran most often, by how often each row ran: those that ran more often first, and of those that ran as often the
-- first in the code; a row that never ran is none of them
abbrev pub busiest : List ℕ → List RowCount
busiest counts = busiest_of [] 0 counts
