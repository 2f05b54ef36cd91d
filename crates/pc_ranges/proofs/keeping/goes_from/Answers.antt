use Rattle.pc_ranges.proofs.Kept.{test_goes_on}
use Rattle.pc_ranges.proofs.keeping.goes_from.Goals as goal

pub returns-else-not-side_leads : goal.returns-else-not-side_leads
returns-else-not-side_leads c = λ e. test_goes_on c.args.flow.now c.args.bounds.now c.args.map.now c.args.at c.in-Test.on c.in-Test.yes c.in-Test.no c.in-Test.turn
    c.in-Test.ensures (c.side_leads.ensures c.if-not-side_leads.false) (c.side_leads-in-Test.ensures e)
