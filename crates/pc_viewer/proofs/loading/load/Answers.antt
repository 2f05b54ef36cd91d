-- Why the bytes are no object.
use Rattle.std.proofs.Common.{List, ℕ, subst, sym}
use Rattle.pc_word.specs.Exact.{IsRefusal}
use Rattle.pc_object.specs.Cause.{object_cause}
use Rattle.pc_object.specs.Reading.{object_reading}
use Rattle.pc_viewer.specs.declared.fault.ViewFault.{ViewFault}
use Rattle.pc_viewer.specs.models.Steps.{StopsAt}
use Rattle.pc_viewer.proofs.Endings.{object_stops}
use Rattle.pc_viewer.proofs.loading.load.Goals as goal

pub returns-clause-object : goal.returns-clause-object
returns-clause-object g c =
    let old = g.H.Shelf.state c.args.shelf.now in
    let new = g.H.Shelf.state c.read_object.new.shelf in
    subst (λ (fault : ViewFault). StopsAt c.args.name.now old new fault) (sym c.fault_of_object.ensures)
    (object_stops c.args.name.now old new c.in_ok-bytes.bytes.items c.in_ok-bytes.ensures.text c.in_ok-bytes.ensures.few c.in-Err.error
    (subst (λ (bytes : List ℕ). IsRefusal (object_cause c.in-Err.error) (object_reading bytes)) c.as_slice.ensures.value c.in-Err.ensures.exact))
