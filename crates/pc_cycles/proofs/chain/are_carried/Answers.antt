use Rattle.pc_automaton.specs.Automaton.{states_in}
use Rattle.pc_told.specs.Tellings.{tellings_in}
use Rattle.pc_cycles.specs.Chains.{by_no_link}
use Rattle.pc_cycles.proofs.Chains.{carry_next, there_round}
use Rattle.pc_cycles.proofs.chain.are_carried.Goals as goal

pub loop-at-init : goal.loop-at-init
loop-at-init c = by_no_link

pub loop-at-preserved : goal.loop-at-preserved
loop-at-preserved c =
    carry_next (states_in c.args.told.now.automaton) (tellings_in c.args.told.now.rows) c.args.told.now.waiting c.args.transitions.now c.args.links.now c.args.start c.loop-at.carrier c.loop-at.at _ _
    c.loop-at-test.true c.loop-at.invariant (there_round c.args.transitions.now c.loop-at.at _ c.if-is_empty.ensures) (c.carries.ensures c.if-not-carries.false)
