use Rattle.pc_automaton.specs.Automaton.{state_in}
use Rattle.pc_machine.specs.MachineCode.{row_of}
use Rattle.pc_emit.proofs.Packs.{state_there}
use Rattle.pc_emit.proofs.CanMake.{can_make}
use Rattle.pc_emit.proofs.States.{one_more_state}
use Rattle.pc_emit.proofs.packed.state_rows.Goals as goal

pub packed_row-requires-clause-can : goal.packed_row-requires-clause-can
packed_row-requires-clause-can c =
    let there = state_there c.args.site.now c.loop-state.state c.state.result.now c.state.ensures in
    can_make c.args.plan.now c.args.site.now c.requires.plan c.requires.site c.loop-state.state (state_in c.state.result.now) there

pub loop-state-preserved : goal.loop-state-preserved
loop-state-preserved c =
    let there = state_there c.args.site.now c.loop-state.state c.state.result.now c.state.ensures in
    let row = c.in_ok-row.ensures in
    let pushed = c.in_ok-push_row.ensures in
    one_more_state c.args.plan.now c.args.site.now c.args.output.now c.loop-state.output c.packed_row.new.output c.push_row.new.self c.loop-state.state
    (state_in c.state.result.now) (row_of c.in_ok-row.row) c.loop-state.invariant there row.grows row.rows row.made row.ways row.short pushed.grows pushed.copies pushed.rows pushed.count
    pushed.stands c.requires.site c.requires.begins
