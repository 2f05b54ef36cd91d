use Rattle.std.proofs.Common.{◌≡◌, take}
use Rattle.pc_compile.proofs.program.copied.Given as goal

abbrev pub invariant-loop-words : goal.invariant-loop-words
invariant-loop-words l = l.list ≡ take l.words-index l.fn.initial
