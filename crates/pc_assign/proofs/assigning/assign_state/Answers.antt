use Rattle.std.proofs.Common.{rules}
use Rattle.pc_automaton.specs.Automaton.{state_in}
use Rattle.pc_assign.specs.Pressure.{IsLow}
use Rattle.pc_assign.proofs.AllGiven.{names_counted, given_is}
use Rattle.pc_assign.proofs.assigning.assign_state.Goals as goal

pub high_pressure-requires-clause-names : goal.high_pressure-requires-clause-names
high_pressure-requires-clause-names c =
    names_counted (state_in c.args.state.now) c.in_ok-names.names.keys c.len.result c.in_ok-names.ensures c.len.ensures.len

pub returns : goal.returns
returns c =
    let low : IsLow c.args.scratch (state_in c.args.state.now) = search rules in
    given_is c.args.scratch c.args.number c.args.passed.now (state_in c.args.state.now)
    (record { names = c.in_ok-names.names; registers = c.in_ok-registers.registers })
    c.as_slice-parameters.result.now c.in_ok-held.held c.as_slice.result.now c.in_ok-names.ensures
    c.requires.once low c.as_slice-parameters.ensures c.as_slice.ensures
    c.in_ok-held.ensures.count c.in_ok-held.ensures.most c.in_ok-held.ensures.chosen c.in_ok-registers.ensures
