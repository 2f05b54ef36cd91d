use Rattle.std.proofs.Common.{◌≡◌, drop}
use Rattle.std.specs.List.{list_any}
use Rattle.pc_matching.specs.Facts.{facts_of}
use Rattle.pc_matching.specs.Matching.{says_that}
use Rattle.pc_matching.proofs.matching.is_said.Given as goal

-- one of the facts that follow says so if any does
abbrev pub invariant-loop-fact : goal.invariant-loop-fact
invariant-loop-fact l = list_any (says_that l.source l.operand) (facts_of l.facts) ≡ list_any (says_that l.source l.operand) (facts_of (drop l.fact-index l.facts))
