use Rattle.pc_settling.proofs.EndLeaves.{ends_not, ends_if}
use Rattle.pc_settling.proofs.ends.ends_alike.Goals as goal

pub returns-in-None : goal.returns-in-None
returns-in-None c = ends_not c.args.window.now c.args.leaf c.in-None.ensures

pub returns-in-Some : goal.returns-in-Some
returns-in-Some c = ends_if c.args.window.now c.in-Some.end c.args.leaf c.eq.result c.in-Some.ensures c.eq.ensures
