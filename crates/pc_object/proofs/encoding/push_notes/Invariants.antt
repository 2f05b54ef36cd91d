use Rattle.std.proofs.Common.{◌≡◌, ◌++◌, take, All, length}
use Rattle.std.specs.List.{flat_map}
use Rattle.pc_object.specs.ObjectText.{note_text, u16_text}
use Rattle.pc_object.specs.Numbers.{NoteFits}
use Rattle.pc_object.proofs.encoding.push_notes.Given as goal

abbrev pub invariant-loop-note : goal.invariant-loop-note
invariant-loop-note l = record {
  text : l.out.items ≡ (l.fn.out.items ++ u16_text (length l.notes)) ++ flat_map note_text (take l.note-index l.notes);
  words : All NoteFits (take l.note-index l.notes);
}
