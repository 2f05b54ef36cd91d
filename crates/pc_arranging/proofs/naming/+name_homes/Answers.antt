use Rattle.std.proofs.Common.{arith}
use Rattle.pc_arranging.proofs.naming.+name_homes.Goals as goal

pub name_homes-requires : goal.name_homes-requires
name_homes-requires t c =
    let some = c.if-count-eq0.false in
    let size = c.in_ok-name_home.ensures.size c.if-not-branch.false in
    let count = c.in_ok-name_home.ensures.count in
    let variables = c.in_ok-name_home.ensures.variables in
    let small = c.requires.small in let names = c.requires.names in let more = c.requires.variables in let homes = c.requires.homes in (
      omega (arith, c.decreases),
      (omega arith, (c.in_ok-name_home.ensures.nodes c.if-not-branch.false, (omega arith, (omega arith, omega arith)))),
    )
