use Rattle.std.proofs.Common.{refl}
use Rattle.pc_pattern.proofs.Steps.{names_there}
use Rattle.pc_pattern.proofs.seen.met_as.Goals as goal

pub key-requires-clause-below : goal.key-requires-clause-below
key-requires-clause-below c = names_there c.args.window.now _ c.requires.proper refl
