use Rattle.std.proofs.Common.{◌≡◌, take, All}
use Rattle.pc_word.specs.Word.{IsWord}
use Rattle.pc_lower.proofs.data.copy_data.Given as goal

-- the lists so far
abbrev pub invariant-loop-words : goal.invariant-loop-words
invariant-loop-words l = (l.lists ≡ take l.words-index l.from) × All (All IsWord) (take l.words-index l.from)
