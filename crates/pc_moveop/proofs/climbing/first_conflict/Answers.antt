use Rattle.pc_window.specs.StoredWindow.{forms_in}
use Rattle.pc_moveop.proofs.Climbs.{conflicts}
use Rattle.pc_moveop.proofs.climbing.first_conflict.Goals as goal

pub returns : goal.returns
returns c way = conflicts (forms_in c.args.names.now.forms) c.args.finished c.args.origin c.args.above
    c.args.climb.item c.may_pass.result c.args.climb.conflict c.may_pass.ensures c.if-may_pass.false way
