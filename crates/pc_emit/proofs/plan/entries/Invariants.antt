use Rattle.std.proofs.Common.{◌≡◌, ◌+◌, ◌++◌, drop}
use Rattle.pc_emit.specs.models.Layout.{all_rows, entries_from}
use Rattle.pc_emit.proofs.plan.entries.Given as goal

-- the entries so far, before those of the regions that are left, are those of all
abbrev pub invariant-loop-at : goal.invariant-loop-at
invariant-loop-at l = record {
  built : l.entries.items ++ entries_from l.row (drop l.at l.regions) (drop l.at l.forms) ≡ entries_from l.first l.regions l.forms;
  sum : l.row + all_rows (drop l.at l.regions) (drop l.at l.forms) ≡ l.first + all_rows l.regions l.forms;
}
