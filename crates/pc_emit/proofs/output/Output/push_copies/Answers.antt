use Rattle.std.proofs.Common.{refl}
use Rattle.pc_emit.proofs.Outputs.{copies_grow}
use Rattle.pc_emit.proofs.output.Output.push_copies.Goals as goal

pub returns-in-Ok-clause-grows : goal.returns-in-Ok-clause-grows
returns-in-Ok-clause-grows c = copies_grow _ _ c.args.row c.in-Ok.ensures.items refl refl
