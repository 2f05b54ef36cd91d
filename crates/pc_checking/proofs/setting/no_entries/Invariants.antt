use Rattle.std.proofs.Common.{◌≡◌, replicate, None}
use Rattle.pc_checking.proofs.setting.no_entries.Given as goal

-- none so far
abbrev pub invariant-loop : goal.invariant-loop
invariant-loop l = l.firsts ≡ replicate l.counter None
