use Rattle.std.proofs.Common.{◌≡◌, ◌++◌, take}
use Rattle.std.specs.List.{flat_map}
use Rattle.pc_object.specs.ObjectText.{u32_text}
use Rattle.pc_object.proofs.writing.push_lengths.Given as goal

abbrev pub invariant-loop-length : goal.invariant-loop-length
invariant-loop-length l = l.out.items ≡ l.fn.out.items ++ flat_map u32_text (take l.length-index l.lengths)
