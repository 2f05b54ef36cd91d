use Rattle.std.proofs.Common.{◌≡◌, ◌≤◌, ◌+◌, length}
use Rattle.pc_assembly.specs.Text.{lines_of}
use Rattle.pc_assembly.specs.Listing.{first_line}
use Rattle.pc_assembly.proofs.draft.first_line.Given as goal

-- the lines that were passed tell nothing
abbrev pub invariant-loop-rest : goal.invariant-loop-rest
invariant-loop-rest l = record {
  so_far : first_line l.number (lines_of l.rest) ≡ first_line 1 (lines_of l.text);
  few : l.number + length l.rest ≤ 1 + length l.text;
}

abbrev pub decreases-loop-rest : goal.decreases-loop-rest
decreases-loop-rest l = length l.rest
