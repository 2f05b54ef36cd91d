use Rattle.std.proofs.Common.{take}
use Rattle.pc_cycles.proofs.Frequencies.{IsGreatestSoFar}
use Rattle.pc_cycles.proofs.frequency.greatest_count.Given as goal

abbrev pub invariant-loop-number : goal.invariant-loop-number
invariant-loop-number l = IsGreatestSoFar l.numbers (take l.number-index l.numbers) l.most
