use Rattle.std.proofs.Common.{◌∙◌}
use Rattle.pc_assembly.proofs.TableLaws.{row_found}
use Rattle.pc_assembly.proofs.names.row_named.Goals as goal

pub returns : goal.returns
returns c = c.copied.ensures ∙ c.get.ensures.value ∙ row_found c.args.names.now c.args.name.now
