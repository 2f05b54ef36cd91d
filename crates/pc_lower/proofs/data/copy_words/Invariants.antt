use Rattle.std.proofs.Common.{◌≡◌, take, All}
use Rattle.pc_word.specs.Word.{IsWord}
use Rattle.pc_lower.proofs.data.copy_words.Given as goal

-- the words so far
abbrev pub invariant-loop-word : goal.invariant-loop-word
invariant-loop-word l = (l.words ≡ take l.word-index l.from) × All IsWord (take l.word-index l.from)
