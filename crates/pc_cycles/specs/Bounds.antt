-- How few rows once round a cycle can take: for what stands there, and for the items of its chain, of which each has to wait for the one before.
use Rattle.std.specs.Prelude.{ℕ, max, Option, Some, None}
use Rattle.std.specs.Int.{div_ceil}
use Rattle.pc_cycles.specs.declared.chain.Chain.{Chain}
use Rattle.pc_cycles.specs.declared.cycle.Cycle.{Cycle}

-- the least number of rows for the items of a chain, once round: its items divided by its rounds, rounded up, where it goes round once at least
abbrev pub chain_bound : Chain → ℕ
chain_bound chain = div_ceil chain.items (max 1 chain.rounds)

-- that, if there is a chain
abbrev pub recurrence_bound : Option Chain → ℕ
recurrence_bound None = 0
recurrence_bound (Some chain) = chain_bound chain

-- the greater of this and of the least number of rows that has room for what stands there
abbrev pub cycle_bound : Cycle → ℕ
cycle_bound cycle = max cycle.least_rows (recurrence_bound cycle.chain)
