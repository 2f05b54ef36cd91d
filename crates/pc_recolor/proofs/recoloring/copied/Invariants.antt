use Rattle.std.proofs.Common.{◌≡◌, take}
use Rattle.pc_recolor.proofs.recoloring.copied.Given as goal

-- what is there so far is copied
abbrev pub invariant-loop-words : goal.invariant-loop-words
invariant-loop-words l = l.list ≡ take l.words-index l.fn.initial
