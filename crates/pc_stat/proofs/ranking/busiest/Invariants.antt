use Rattle.std.proofs.Common.{◌≡◌, ◌≤◌, drop, length}
use Rattle.pc_stat.specs.Busiest.{busiest, busiest_of, most_told}
use Rattle.pc_stat.proofs.ranking.busiest.Given as goal

-- the busiest of the rows so far, with the counts from here on, are the busiest of all; they are few
abbrev pub invariant-loop-number : goal.invariant-loop-number
invariant-loop-number l = (busiest_of l.rows.items l.number (drop l.number l.counts) ≡ busiest l.counts) × (length l.rows.items ≤ most_told)
