use Rattle.std.proofs.Common.{arith}
use Rattle.std.proofs.lemmas.Grind.{common_steps}
use Rattle.std.proofs.lemmas.List.Elements.{All-more}
use Rattle.pc_object.specs.Numbers.{NoteFits}
use Rattle.pc_object.proofs.encoding.push_notes.Goals as goal

pub loop-note-preserved : goal.loop-note-preserved
loop-note-preserved c = record {
  text = grind (arith, common_steps);
  words = All-more NoteFits c.args.notes.now c.loop-note.note-index _ c.loop-note-test.true c.loop-note.invariant.words c.push_note.ensures.words;
}
