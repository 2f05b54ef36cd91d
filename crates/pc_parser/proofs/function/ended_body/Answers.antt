use Rattle.pc_parser.proofs.Results.{no-items, body-ended}
use Rattle.pc_parser.proofs.function.ended_body.Goals as goal

-- no items
pub returns-in-None : goal.returns-in-None
returns-in-None c = no-items c.args.items c.pop.new.self c.in-None.ensures.0 c.in-None.ensures.1

-- the last item tells
pub returns-in-Some : goal.returns-in-Some
returns-in-Some c = body-ended c.args.items c.pop.new.self c.in-Some.last c.ended_by.result c.in-Some.ensures c.ended_by.ensures
