use Rattle.std.proofs.Common.{◌≡◌, ◌≤◌, length, drop}
use Rattle.pc_table.specs.StoredTable.{table_of}
use Rattle.pc_compile.specs.models.Heading.{headings}
use Rattle.pc_compile.proofs.notes.heading.Given as goal

-- what is found so far is that of the choices from this one on
abbrev pub invariant-loop-at : goal.invariant-loop-at
invariant-loop-at l = record {
  within : l.at ≤ length l.choices;
  found : l.found.items ≡ headings (table_of l.table) (length l.loops) l.at (drop l.at l.choices);
}

abbrev pub decreases-loop-at : goal.decreases-loop-at
decreases-loop-at l = l.at
