-- There are bytes, and they were written or not.
use Rattle.std.proofs.Common.{subst, List, ℕ}
use Rattle.pc_command.specs.Requests.{assemble_request}
use Rattle.pc_assembler.specs.models.Steps.{WriteEnds}
use Rattle.pc_assembler.proofs.Endings.{write_ends}
use Rattle.pc_assembler.proofs.assembler.assemble_text.Goals as goal

pub returns-in-Ok : goal.returns-in-Ok
returns-in-Ok g c =
    let mid = g.H.Shelf.state c.object_bytes.new.shelf in
    let new = g.H.Shelf.state c.write_object.new.shelf in
    write_ends (assemble_request c.args.command) (g.H.Shelf.state c.args.shelf.now) mid new c.in-Ok.bytes.items c.write_object.result
    c.in-Ok.ensures.shelf c.in-Ok.ensures.bytes
    (subst (λ (bytes : List ℕ). WriteEnds c.args.command.object.now bytes mid new c.write_object.result) c.as_slice.ensures.value c.write_object.ensures)
