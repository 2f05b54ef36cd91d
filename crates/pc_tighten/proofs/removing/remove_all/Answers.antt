use Rattle.pc_machine.specs.MachineCode.{rows_of}
use Rattle.pc_tighten.proofs.Gotos.{rows_same, rounds_go_on, rounds_end}
use Rattle.pc_tighten.proofs.removing.remove_all.Goals as goal

pub loop-init : goal.loop-init
loop-init c = rows_same (rows_of c.args.rows.now.items)

pub loop-preserved : goal.loop-preserved
loop-preserved c =
    (rounds_go_on (rows_of c.args.rows.now.items) (rows_of c.loop.rows.items) (rows_of c.remove_round.new.rows.items) c.in_ok-remove_round.field-0 c.if-branch.true
    c.loop.invariant c.in_ok-remove_round.ensures).0

pub returns : goal.returns
returns c =
    rounds_end (rows_of c.args.rows.now.items) (rows_of c.loop.rows.items) (rows_of c.remove_round.new.rows.items) c.in_ok-remove_round.field-0 c.if-branch.false
    c.loop.invariant c.in_ok-remove_round.ensures
