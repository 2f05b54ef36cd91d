use Rattle.std.proofs.Common.{arith}
use Rattle.pc_automaton.specs.Automaton.{state_in}
use Rattle.pc_assign.proofs.Pressures.{few_low}
use Rattle.pc_assign.proofs.pressure.high_pressure.Goals as goal

pub returns-then-names-from : goal.returns-then-names-from
returns-then-names-from c =
    few_low c.args.scratch (state_in c.args.state.now) c.args.names c.requires.names (omega (arith, c.if-names-from.true, c.from.ensures))
