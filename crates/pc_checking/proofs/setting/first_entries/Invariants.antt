use Rattle.std.proofs.Common.{◌≡◌, ◌≤◌, length, drop}
use Rattle.pc_checking.specs.models.Rows.{TellFirst}
use Rattle.pc_checking.proofs.setting.first_entries.Given as goal

-- the entries that follow are told
abbrev pub invariant-loop-number : goal.invariant-loop-number
invariant-loop-number l = record {
  within : l.number ≤ length l.entries;
  as_many : length l.firsts ≡ l.rows;
  told : TellFirst (drop l.number l.entries) l.number l.firsts;
}

abbrev pub decreases-loop-number : goal.decreases-loop-number
decreases-loop-number l = l.number
