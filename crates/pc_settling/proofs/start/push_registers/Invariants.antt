use Rattle.std.proofs.Common.{◌≡◌, ◌++◌, map}
use Rattle.pc_word.specs.declared.item.Operand.{Operand}
use Rattle.pc_matching.specs.Facts.{facts_of}
use Rattle.pc_matching.specs.FactsAfter.{that}
use Rattle.pc_settling.specs.Start.{registers_below}
use Rattle.pc_settling.proofs.start.push_registers.Given as goal

-- those of the registers so far stand behind the others
abbrev pub invariant-loop-register : goal.invariant-loop-register
invariant-loop-register l = facts_of l.start ≡ facts_of l.initial.start ++ map (λ (source : Operand). that source l.operand) (registers_below l.register)
