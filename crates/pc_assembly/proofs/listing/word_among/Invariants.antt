use Rattle.std.proofs.Common.{◌≡◌, drop}
use Rattle.pc_assembly.specs.Assembled.{word_among}
use Rattle.pc_assembly.proofs.listing.word_among.Given as goal

-- the word is in none of the lines that were passed
abbrev pub invariant-loop-line : goal.invariant-loop-line
invariant-loop-line l = word_among l.left l.last (drop l.line-index l.lines) ≡ word_among l.before l.last l.lines
