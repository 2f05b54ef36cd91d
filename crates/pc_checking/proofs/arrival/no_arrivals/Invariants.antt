use Rattle.std.proofs.Common.{◌≡◌, take}
use Rattle.pc_accepted.specs.Arrivals.{no_arrivals}
use Rattle.pc_checking.specs.models.Stored.{arrivals_in}
use Rattle.pc_checking.proofs.arrival.no_arrivals.Given as goal

-- nothing at the entries so far
abbrev pub invariant-loop-entry : goal.invariant-loop-entry
invariant-loop-entry l = arrivals_in l.arrivals.items ≡ no_arrivals (take l._entry-index l.entries)
