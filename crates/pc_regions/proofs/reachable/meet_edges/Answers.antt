use Rattle.pc_regions.proofs.Reaching.{test_edges}
use Rattle.pc_regions.proofs.reachable.meet_edges.Goals as goal

pub returns-in_ok-number-in-Test-2 : goal.returns-in_ok-number-in-Test-2
returns-in_ok-number-in-Test-2 c =
    test_edges c.args.flow.now.nodes c.args.from c.in-Test.on c.in-Test.yes c.in-Test.no c.in_ok-number-in-Test.field-0 c.in_ok-number-in-Test-2.field-0 c.in-Test.turn
    c.args.met.now c.number-in-Test.new.self c.number-in-Test-2.new.self c.in-Test.ensures c.in_ok-number-in-Test.ensures.met c.in_ok-number-in-Test-2.ensures.met
