use Rattle.pc_settled.proofs.Webs.{leads_itself, leads_on}
use Rattle.pc_settled.proofs.nodes.NodeSets.least.Goals as goal

pub loop-above-init : goal.loop-above-init
loop-above-init c = record {
  leads = leads_itself c.args.self.now.up.items c.args.node;
  named = c.above-above.ensures;
}

pub loop-above-preserved : goal.loop-above-preserved
loop-above-preserved c = record {
  leads = leads_on c.args.self.now.up.items c.args.node c.loop-above.at c.loop-above.above c.loop-above.invariant.leads c.loop-above.invariant.named;
  named = c.above-above-in-loop-above.ensures;
}
