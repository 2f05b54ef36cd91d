use Rattle.std.proofs.Common.{◌≡◌, ◌++◌, take}
use Rattle.std.specs.Prelude.{filter}
use Rattle.pc_matching.specs.Facts.{facts_of}
use Rattle.pc_matching.specs.FactsAfter.{is_of_name}
use Rattle.pc_matching.proofs.carrying.push_given.Given as goal

-- the facts of names so far stand behind the others
abbrev pub invariant-loop-fact : goal.invariant-loop-fact
invariant-loop-fact l = facts_of l.before ≡ facts_of l.initial.before ++ filter is_of_name (facts_of (take l.fact-index l.facts))
