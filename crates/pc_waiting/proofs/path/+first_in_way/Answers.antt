use Rattle.pc_window.specs.StoredWindow.{forms_in}
use Rattle.pc_waiting.specs.models.Path.{path_in}
use Rattle.pc_waiting.proofs.Looked.{stopped_here}
use Rattle.pc_waiting.proofs.path.+first_in_way.Goals as goal

pub returns-else-lets_pass : goal.returns-else-lets_pass
returns-else-lets_pass t c =
    rw c.in-Below.is
    (stopped_here (forms_in c.args.names.now.forms) c.args.first c.args.what c.in-Below.last (path_in c.in-Below.path.now) c.met.result c.first_in_way.result c.lets_pass.result
    c.in_default.is c.first_in_way.ensures c.lets_pass.ensures c.if-lets_pass.false c.met.ensures)
