use Rattle.std.proofs.Common.{◌≡◌, drop}
use Rattle.pc_assembly.specs.Assembled.{place_among}
use Rattle.pc_assembly.proofs.listing.place_among.Given as goal

-- the byte is in none of the lines that were passed
abbrev pub invariant-loop-line : goal.invariant-loop-line
invariant-loop-line l = place_among l.left l.last (drop l.line-index l.lines) ≡ place_among l.offset l.last l.lines
