use Rattle.std.proofs.Common.{◌≡◌, List, length, Some, refl, sym, subst}
use Rattle.std.specs.Prelude.{slice_get}
use Rattle.std.proofs.lemmas.Option.{slice_get_read}
use Rattle.pc_machine.specs.MachineCode.{rows_of}
use Rattle.pc_settled.specs.declared.register_set.RegisterSet.{RegisterSet}
use Rattle.pc_settled.specs.models.Found.{AreNeeded}
use Rattle.pc_settled.proofs.Needs.{put_is_needed, row_needs}
use Rattle.pc_settled.proofs.liveness.see.Goals as goal

pub returns : goal.returns
returns c =
    let rows = c.args.rows.now in
    let row = c.args.row in
    let tree = c.index-rows-row.result in
    let there : slice_get rows row ≡ Some tree = slice_get_read rows (length rows) row tree refl c.requires.there c.index-rows-row.is in
    subst (λ (sets : List RegisterSet). AreNeeded (rows_of rows) sets) (sym c.put.ensures)
    (put_is_needed (rows_of rows) c.args.live.now row c.all.result c.requires.needed
    (λ x small has. row_needs c.args.live.now rows row x tree c.needs_of-needs.result c.requires.needed there c.needs_of-needs.ensures small (c.all.ensures x has)))
