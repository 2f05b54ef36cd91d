use Rattle.std.proofs.Common.{◌≡◌, ◌++◌, take}
use Rattle.std.specs.Prelude.{filter}
use Rattle.pc_matching.specs.Facts.{facts_of}
use Rattle.pc_settling.specs.Settled.{is_of_another}
use Rattle.pc_settling.proofs.settling.push_others.Given as goal

-- the facts of other operands so far stand behind the others
abbrev pub invariant-loop-fact : goal.invariant-loop-fact
invariant-loop-fact l = facts_of l.after ≡ facts_of l.initial.after ++ filter (is_of_another l.operand) (facts_of (take l.fact-index l.facts))
