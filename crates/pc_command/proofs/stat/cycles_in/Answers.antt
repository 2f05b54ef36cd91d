use Rattle.pc_command.specs.Matching.{matches_in}
use Rattle.pc_command.proofs.Ranges.{cycles-between}
use Rattle.pc_command.proofs.stat.cycles_in.Goals as goal

pub returns-clause-range : goal.returns-clause-range
returns-clause-range c = rw (c.number_in.ensures, c.cycles.ensures) (cycles-between (matches_in c.args.matches.now))
