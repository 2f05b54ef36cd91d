use Rattle.std.proofs.Common.{◌≡◌, ◌++◌, take, map}
use Rattle.std.specs.Prelude.{filter}
use Rattle.pc_certified.specs.Facts.{Fact}
use Rattle.pc_matching.specs.Facts.{facts_of}
use Rattle.pc_settling.specs.Remaining.{is_of_operand, have_value_of}
use Rattle.pc_settling.proofs.sources.push_listed.Given as goal

-- what the facts so far say stands behind the others
abbrev pub invariant-loop-fact : goal.invariant-loop-fact
invariant-loop-fact l =
    facts_of l.after ≡ facts_of l.initial.after
    ++ have_value_of l.name (map (λ (fact : Fact). fact.source) (filter (is_of_operand l.operand) (facts_of (take l.fact-index l.facts))))
