use Rattle.std.proofs.Common.{refl}
use Rattle.pc_emit.proofs.Outputs.{row_grows}
use Rattle.pc_emit.proofs.output.Output.push_row.Goals as goal

pub returns-clause-grows : goal.returns-clause-grows
returns-clause-grows c = row_grows _ _ c.args.row c.in_ok-push.ensures.ok refl refl
