use Rattle.pc_machine.specs.MachineCode.{code_of}
use Rattle.pc_recolor.specs.Recolored.{IsRecoloredAndTightened}
use Rattle.pc_recolor.proofs.recoloring.best.Given as goal

-- the best so far is the code with other registers, and tightened
abbrev pub invariant-loop-turn : goal.invariant-loop-turn
invariant-loop-turn l = IsRecoloredAndTightened l.most (code_of l.code) (code_of l.best.code)
