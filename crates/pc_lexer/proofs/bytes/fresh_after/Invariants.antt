use Rattle.std.proofs.Common.{◌≡◌, drop}
use Rattle.pc_lexer.specs.Cut.{fresh_after}
use Rattle.pc_lexer.proofs.bytes.fresh_after.Given as goal

-- what is left leads to the same
abbrev pub invariant-loop-byte : goal.invariant-loop-byte
invariant-loop-byte l = fresh_after l.fresh (drop l.byte-index l.bytes) ≡ fresh_after l.initial.fresh l.bytes
