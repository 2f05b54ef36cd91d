use Rattle.std.proofs.Common.{refl}
use Rattle.pc_syntax.specs.Erasure.{expression_of}
use Rattle.pc_lower.proofs.Assigned.{held_value}
use Rattle.pc_lower.proofs.Spots.{lays_turn}
use Rattle.pc_lower.proofs.value.lower_turn.Goals as goal

pub lay-last-requires-clause-fits : goal.lay-last-requires-clause-fits
lay-last-requires-clause-fits c = rw c.held.ensures (record {
  names = held_value c.requires.test;
  leads = (c.requires.ready.leads.there, c.requires.ready.leads.there, c.requires.own);
})

pub returns-clause-turn : goal.returns-clause-turn
returns-clause-turn c at e =
    let value = rw (c.above.ensures, c.leading_to.ensures) at c.lower_expression.ensures in
    lays_turn (expression_of c.args.test.now) e refl c.requires.inside c.lay-last.ensures value
