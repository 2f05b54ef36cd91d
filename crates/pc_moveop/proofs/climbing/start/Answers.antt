use Rattle.pc_moveop.proofs.Climbs.{started}
use Rattle.pc_moveop.proofs.climbing.start.Goals as goal

pub returns : goal.returns
returns c forms = started forms c.args.tag c.args.origin c.args.item
