-- A number of cycles that is given is one that the option takes.
use Rattle.pc_command.specs.Matching.{matches_in}
use Rattle.pc_command.specs.models.Lines.{option_of}
use Rattle.pc_command.proofs.Lines.{trace-found}
use Rattle.pc_command.proofs.stat.mode_in.Goals as goal

pub number_found-trace-requires : goal.number_found-trace-requires
number_found-trace-requires c = trace-found (option_of c.trace.result) (matches_in c.args.matches.now) c.trace.ensures c.requires.trace
