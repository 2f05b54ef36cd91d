use Rattle.std.proofs.Common.{◌≡◌, ◌++◌, take}
use Rattle.std.specs.List.{flat_map}
use Rattle.pc_object.specs.ObjectText.{data_text}
use Rattle.pc_assembly.proofs.header.push_each_data.Given as goal

abbrev pub invariant-loop-words : goal.invariant-loop-words
invariant-loop-words l = l.out.items ≡ l.fn.out.items ++ flat_map data_text (take l.words-index l.lists)
