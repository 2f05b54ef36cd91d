use Rattle.std.proofs.Common.{◌≡◌, ◌+◌, drop}
use Rattle.std.specs.List.{prefix_len}
use Rattle.pc_lexer.specs.Piece.{is_inner_blank}
use Rattle.pc_lexer.proofs.piece.inner_blanks.Given as goal

-- each byte before `at` counts
abbrev pub invariant-loop-at : goal.invariant-loop-at
invariant-loop-at l = l.at + prefix_len is_inner_blank (drop l.at l.text) ≡ prefix_len is_inner_blank l.text
