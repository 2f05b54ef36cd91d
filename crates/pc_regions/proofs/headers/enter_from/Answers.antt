use Rattle.pc_regions.proofs.Reaching.{item_leads, test_leads}
use Rattle.pc_regions.proofs.LoopsEntered.{item_enters, test_enters}
use Rattle.pc_regions.proofs.headers.enter_from.Goals as goal

pub returns-in-Op-clause-entered : goal.returns-in-Op-clause-entered
returns-in-Op-clause-entered c =
    let flow = c.args.flow.now in
    item_enters flow c.args.from c.inside-outside.result c.requires.kept c.inside-outside.ensures c.in-Op.item c.in-Op.next c.args.headers.now c.enter.new.headers
    c.in-Op.ensures c.requires.as_many c.enter.ensures.entered (item_leads flow c.args.from c.in-Op.next c.in-Op.item c.requires.kept c.in-Op.ensures) c.enter.ensures.as_many

pub returns-in-Test-clause-entered : goal.returns-in-Test-clause-entered
returns-in-Test-clause-entered c =
    let flow = c.args.flow.now in
    let there = test_leads flow c.args.from c.in-Test.on c.in-Test.yes c.in-Test.no c.in-Test.turn c.requires.kept c.in-Test.ensures in
    test_enters flow c.args.from c.inside-outside.result c.requires.kept c.inside-outside.ensures c.in-Test.on c.in-Test.yes c.in-Test.no c.in-Test.turn
    c.args.headers.now c.enter-in-Test.new.headers c.enter-in-Test-2.new.headers c.in-Test.ensures c.requires.as_many c.enter-in-Test.ensures.entered
    c.enter-in-Test-2.ensures.entered there.0 there.1 c.enter-in-Test.ensures.as_many c.enter-in-Test-2.ensures.as_many
