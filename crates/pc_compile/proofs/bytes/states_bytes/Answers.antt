use Rattle.std.proofs.Common.{arith}
use Rattle.pc_compile.proofs.StateBytes.{states_from}
use Rattle.pc_compile.proofs.bytes.states_bytes.Goals as goal

pub row_bytes-bytes-requires : goal.row_bytes-bytes-requires
row_bytes-bytes-requires c =
    let rest = states_from c.args.automaton.now c.loop-number.number c.state.result.now c.state.ensures in
    let done = c.loop-number.invariant in
    let few = c.requires.few in
    omega (arith, rest, done, few)

pub overflow_add-bytes : goal.overflow_add-bytes
overflow_add-bytes c =
    let rest = states_from c.args.automaton.now c.loop-number.number c.state.result.now c.state.ensures in
    let done = c.loop-number.invariant in
    let few = c.requires.few in
    omega (arith, rest, done, few, c.row_bytes-bytes.ensures)

pub loop-number-preserved : goal.loop-number-preserved
loop-number-preserved c =
    let rest = states_from c.args.automaton.now c.loop-number.number c.state.result.now c.state.ensures in
    let done = c.loop-number.invariant in
    omega (arith, rest, done, c.row_bytes-bytes.ensures)
