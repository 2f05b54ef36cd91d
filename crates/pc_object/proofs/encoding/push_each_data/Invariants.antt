use Rattle.std.proofs.Common.{◌≡◌, ◌++◌, take, All, w32}
use Rattle.std.specs.Prelude.{FitsSigned}
use Rattle.std.specs.List.{flat_map}
use Rattle.pc_object.specs.ObjectText.{data_text}
use Rattle.pc_object.proofs.encoding.push_each_data.Given as goal

abbrev pub invariant-loop-words : goal.invariant-loop-words
invariant-loop-words l = record {
  text : l.out.items ≡ l.fn.out.items ++ flat_map data_text (take l.words-index l.lists);
  words : All (All (FitsSigned w32)) (take l.words-index l.lists);
}
