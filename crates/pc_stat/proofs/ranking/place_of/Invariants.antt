use Rattle.std.proofs.Common.{◌≡◌, ◌+◌, drop}
use Rattle.std.specs.Prelude.{nat_lt}
use Rattle.std.specs.List.{position_or_len}
use Rattle.pc_stat.proofs.ranking.place_of.Given as goal

-- no row so far ran less often: the place is so many further on
abbrev pub invariant-loop-place : goal.invariant-loop-place
invariant-loop-place l =
    position_or_len (λ other. nat_lt other.cycles l.row.cycles) l.rows
    ≡ l.place + position_or_len (λ other. nat_lt other.cycles l.row.cycles) (drop l.place l.rows)
