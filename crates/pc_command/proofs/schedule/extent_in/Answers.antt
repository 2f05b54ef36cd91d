-- Each number is in its range, so it fits its type.
use Rattle.std.proofs.Common.{◌≤◌, arith}
use Rattle.pc_command.specs.Matching.{matches_in}
use Rattle.pc_command.proofs.Ranges.{extent_in-range, number-most, rows-between, window-between}
use Rattle.pc_command.proofs.schedule.extent_in.Goals as goal

pub overflow_cast-result : goal.overflow_cast-result
overflow_cast-result c =
    let most : c.number_in.result ≤ 8 = number-most _ _ _ c.number_in.result 8 c.window.ensures c.number_in.ensures (window-between _).1 in
    omega (arith, most)

pub overflow_cast-result-2 : goal.overflow_cast-result-2
overflow_cast-result-2 c =
    let most : c.number_in-2.result ≤ 512 = number-most _ _ _ c.number_in-2.result 512 c.rows.ensures c.number_in-2.ensures (rows-between _).1 in
    omega (arith, most)

pub returns-clause-range : goal.returns-clause-range
returns-clause-range c =
    rw (c.number_in.ensures, c.window.ensures, c.number_in-2.ensures, c.rows.ensures) (extent_in-range (matches_in c.args.matches.now))
