use Rattle.std.proofs.Common.{◌≡◌, ◌≤◌, ◌+◌, length}
use Rattle.pc_assembly.specs.models.Drafts.{draft_of}
use Rattle.pc_assembly.specs.models.Tables.{names_in}
use Rattle.pc_assembly.specs.Text.{lines_of}
use Rattle.pc_assembly.specs.Listing.{no_lines, lines_read}
use Rattle.pc_assembly.specs.Assembled.{rows_bytes}
use Rattle.pc_assembly.proofs.draft.read_lines.Given as goal

-- what is left leads to the same
abbrev pub invariant-loop-rest : goal.invariant-loop-rest
invariant-loop-rest l = record {
  so_far : lines_read (names_in l.names) l.lengths (draft_of l.draft) l.number (lines_of l.rest)
      ≡ lines_read (names_in l.names) l.lengths no_lines l.first (lines_of l.text);
  rows : l.draft.rows.items ≡ rows_bytes l.draft.lines.items;
  few : l.number + length l.rest ≤ l.first + length l.text;
}

abbrev pub decreases-loop-rest : goal.decreases-loop-rest
decreases-loop-rest l = length l.rest
