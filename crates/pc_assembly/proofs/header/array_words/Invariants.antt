use Rattle.std.proofs.Common.{◌≡◌, take}
use Rattle.pc_assembly.specs.Assembled.{array_words}
use Rattle.pc_assembly.proofs.header.array_words.Given as goal

abbrev pub invariant-loop-line : goal.invariant-loop-line
invariant-loop-line l = l.words ≡ array_words l.array (take l.line-index l.lines)
