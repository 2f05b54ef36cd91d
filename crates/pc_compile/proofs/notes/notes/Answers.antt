use Rattle.std.proofs.Common.{◌≡◌, List, ◌∙◌, subst}
use Rattle.std.specs.Prelude.{IfOk}
use Rattle.pc_table.specs.StoredTable.{table_of}
use Rattle.pc_object.specs.declared.object.Note.{Note}
use Rattle.pc_compile.proofs.LoopNotes.{as_many_places, are_places, notes_right}
use Rattle.pc_compile.proofs.notes.notes.Goals as goal

pub noted-requires-clause-as_many : goal.noted-requires-clause-as_many
noted-requires-clause-as_many c =
    rw c.as_slice.ensures (as_many_places (table_of c.args.table.now) c.args.table.now.loops c.args.choices.now c.as_slice-2.result.now
    (c.as_slice-2.ensures.value ∙ c.in_ok-heading.ensures))

pub noted-requires-clause-there : goal.noted-requires-clause-there
noted-requires-clause-there c =
    are_places (table_of c.args.table.now) c.args.table.now.loops c.args.choices.now c.as_slice-2.result.now
    (c.as_slice-2.ensures.value ∙ c.in_ok-heading.ensures)

pub returns : goal.returns
returns c =
    subst (λ (l : List Note). IfOk c.noted.result (λ notes. notes ≡ l))
    (notes_right (table_of c.args.table.now) c.args.choices.now c.as_slice.result.now c.as_slice-2.result.now c.as_slice.ensures
    (c.as_slice-2.ensures.value ∙ c.in_ok-heading.ensures)) c.noted.ensures
