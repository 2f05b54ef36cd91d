use Rattle.std.proofs.Common.{◌≡◌, drop}
use Rattle.pc_matching.specs.Facts.{facts_of}
use Rattle.pc_settling.specs.Arrives.{facts_at}
use Rattle.pc_settling.specs.models.Finding.{behind}
use Rattle.pc_settling.proofs.entry_facts.facts_at.Given as goal

-- those that follow stand behind those that are found
abbrev pub invariant-loop-fact : goal.invariant-loop-fact
invariant-loop-fact l = facts_at l.parameters l.facts ≡ behind (facts_of l.found) (facts_at l.parameters (drop l.fact-index l.facts))
