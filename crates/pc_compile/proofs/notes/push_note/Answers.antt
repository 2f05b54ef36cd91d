use Rattle.std.proofs.Common.{◌≡◌, ◌++◌, List, subst}
use Rattle.std.specs.Prelude.{OnOk}
use Rattle.pc_object.specs.declared.object.Note.{Note}
use Rattle.pc_compile.proofs.LoopNotes.{note_made}
use Rattle.pc_compile.proofs.notes.push_note.Goals as goal

pub returns-in-Some : goal.returns-in-Some
returns-in-Some c =
    subst (λ (l : List Note). OnOk c.push_any.result (c.push_any.new.notes ≡ c.args.notes.now ++ l))
    (note_made c.args.line c.args.choices.now c.args.heading c.in-Some.at c.index-choices-at.result c.note.result c.in-Some.is c.requires
    c.index-choices-at.is c.note.ensures) c.push_any.ensures
