use Rattle.std.proofs.Common.{◌≡◌, ◌++◌, take, length, All, w32}
use Rattle.std.specs.Prelude.{FitsSigned}
use Rattle.std.specs.List.{flat_map}
use Rattle.pc_object.specs.ObjectText.{u32_text, word_text}
use Rattle.pc_object.proofs.writing.push_data.Given as goal

abbrev pub invariant-loop-word : goal.invariant-loop-word
invariant-loop-word l = record {
  text : l.out.items ≡ (l.fn.out.items ++ u32_text (length l.words)) ++ flat_map word_text (take l.word-index l.words);
  words : All (FitsSigned w32) (take l.word-index l.words);
}
