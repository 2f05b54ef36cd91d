use Rattle.std.proofs.Common.{subst}
use Rattle.pc_automaton.specs.Automaton.{states_in}
use Rattle.pc_assign.specs.Pressure.{few_scratch}
use Rattle.pc_assign.specs.models.Assigning.{RefusesStates}
use Rattle.pc_assign.proofs.AllGiven.{assigned_few, assigned_then}
use Rattle.pc_assign.proofs.assigning.assign.Goals as goal

pub returns-in-Ok : goal.returns-in-Ok
returns-in-Ok c = assigned_few c.args.automaton.now c.in-Ok.assigned c.in-Ok.ensures.scratch c.in-Ok.ensures.given

pub returns-in-Err-Pressure : goal.returns-in-Err-Pressure
returns-in-Err-Pressure c =
    let again = c.assign_below-in-Err-Pressure in
    let first = subst (RefusesStates few_scratch (states_in c.args.automaton.now)) c.in-Err-Pressure.field-0-is c.in-Err-Pressure.ensures.given in
    assigned_then c.args.automaton.now c.in-Err-Pressure.field-0-0 c.in-Err-Pressure.field-0-1 first again.result again.ensures.given again.ensures.scratch
