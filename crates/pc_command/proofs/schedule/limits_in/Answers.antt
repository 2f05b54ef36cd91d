-- Each number is in its range, so it fits a byte.
use Rattle.std.proofs.Common.{◌≤◌, arith}
use Rattle.pc_command.specs.Matching.{matches_in}
use Rattle.pc_command.proofs.Ranges.{limits_in-range, mem-between, number-most, ops-between, tests-between}
use Rattle.pc_command.proofs.schedule.limits_in.Goals as goal

pub overflow_cast-result : goal.overflow_cast-result
overflow_cast-result c =
    let most : c.number_in.result ≤ 32 = number-most _ _ _ c.number_in.result 32 c.ops.ensures c.number_in.ensures (ops-between _).1 in
    omega (arith, most)

pub overflow_cast-result-2 : goal.overflow_cast-result-2
overflow_cast-result-2 c =
    let most : c.number_in-2.result ≤ 7 = number-most _ _ _ c.number_in-2.result 7 c.tests.ensures c.number_in-2.ensures (tests-between _).1 in
    omega (arith, most)

pub overflow_cast-result-3 : goal.overflow_cast-result-3
overflow_cast-result-3 c =
    let most : c.number_in-3.result ≤ 32 = number-most _ _ _ c.number_in-3.result 32 c.mem.ensures c.number_in-3.ensures (mem-between _).1 in
    omega (arith, most)

pub returns-clause-range : goal.returns-clause-range
returns-clause-range c =
    rw (c.number_in.ensures, c.ops.ensures, c.number_in-2.ensures, c.tests.ensures, c.number_in-3.ensures, c.mem.ensures)
    (limits_in-range (matches_in c.args.matches.now))
