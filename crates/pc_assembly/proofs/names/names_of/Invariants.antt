use Rattle.std.proofs.Common.{◌≡◌, ◌≤◌, suc, length}
use Rattle.pc_assembly.specs.models.Tables.{names_in}
use Rattle.pc_assembly.specs.Text.{lines_of}
use Rattle.pc_assembly.specs.Names.{most_row, names_from, names_of}
use Rattle.pc_assembly.proofs.names.names_of.Given as goal

-- what is left leads to the same
abbrev pub invariant-loop-rest : goal.invariant-loop-rest
invariant-loop-rest l = record {
  so_far : names_from (names_in l.names) l.rows (lines_of l.rest) ≡ names_of (lines_of l.text);
  few : l.rows ≤ suc most_row;
}

abbrev pub decreases-loop-rest : goal.decreases-loop-rest
decreases-loop-rest l = length l.rest
