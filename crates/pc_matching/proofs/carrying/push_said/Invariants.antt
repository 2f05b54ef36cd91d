use Rattle.std.proofs.Common.{◌≡◌, ◌++◌, take, map}
use Rattle.pc_matching.specs.Facts.{facts_of}
use Rattle.pc_matching.specs.FactsAfter.{that}
use Rattle.pc_matching.proofs.carrying.push_said.Given as goal

-- the facts of the operands so far stand behind the others
abbrev pub invariant-loop-operand : goal.invariant-loop-operand
invariant-loop-operand l = facts_of l.after ≡ facts_of l.initial.after ++ map (that l.source) (take l.operand-index l.operands)
