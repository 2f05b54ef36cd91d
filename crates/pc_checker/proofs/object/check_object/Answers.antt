-- There is an object, and a certificate came to this.
use Rattle.pc_command.specs.Requests.{check_request}
use Rattle.pc_object.specs.ObjectText.{object_of}
use Rattle.pc_table.specs.StoredTable.{table_of}
use Rattle.pc_checker.proofs.Objects.{object_answered}
use Rattle.pc_checker.proofs.object.check_object.Goals as goal

pub returns-in-Ok : goal.returns-in-Ok
returns-in-Ok g c =
    object_answered (check_request c.args.command) c.args.cut.now.flow.initial (table_of c.args.cut.now.table) (object_of c.in-Ok.object)
    (g.H.Shelf.state c.args.shelf.now) (g.H.Shelf.state c.read_object.new.shelf) (g.H.Shelf.state c.check_certificate.new.shelf)
    c.in-Ok.ensures.object c.in-Ok.ensures.keeps c.check_certificate.result c.check_certificate.ensures
