use Rattle.std.proofs.Common.{◌≡◌, ◌≤◌, ◌++◌, drop}
use Rattle.pc_renumber.specs.models.Numbering.{counts_from}
use Rattle.pc_renumber.proofs.variables.counts.Given as goal

-- the counts so far, and those of the rest of the marks, are those of all
abbrev pub invariant-loop-at : goal.invariant-loop-at
invariant-loop-at l = record {
  few : l.count ≤ l.at;
  same : l.counts.items ++ counts_from l.count (drop l.at l.marks) ≡ counts_from 0 l.marks;
}
