use Rattle.std.proofs.Common.{◌≡◌, map, reverse, take}
use Rattle.pc_syntax.specs.UnitErasure.{function_of}
use Rattle.pc_inline.specs.models.Finding.{place_among}
use Rattle.pc_inline.proofs.finding.find.Given as goal

-- the last place so far, which is one of the list
abbrev pub invariant-loop-at : goal.invariant-loop-at
invariant-loop-at l = l.found ≡ place_among (reverse (map function_of (take l.at l.functions))) l.symbol
