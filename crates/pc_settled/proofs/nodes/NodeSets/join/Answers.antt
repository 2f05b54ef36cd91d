use Rattle.pc_settled.proofs.Webs.{joins}
use Rattle.pc_settled.proofs.nodes.NodeSets.join.Goals as goal

pub returns : goal.returns
returns c =
    joins c.args.self.now.up.items c.set.new.self.up.items c.set-2.new.self.up.items c.set-3.new.self.up.items c.set-4.new.self.up.items c.args.one c.args.other
    c.least-first.result c.least-second.result c.min-least.result c.least-first.ensures c.least-second.ensures c.min-least.ensures
    c.set.ensures c.set-2.ensures c.set-3.ensures c.set-4.ensures
