use Rattle.std.proofs.Common.{◌≡◌, ◌++◌, take, drop}
use Rattle.pc_word.specs.NumberText.{first_word}
use Rattle.pc_word.proofs.number_text.first_word.Given as goal

abbrev pub invariant-loop-len : goal.invariant-loop-len
invariant-loop-len l = first_word l.bytes ≡ take l.len l.bytes ++ first_word (drop l.len l.bytes)
