use Rattle.pc_tighten.proofs.Raised.{some_within}
use Rattle.pc_tighten.proofs.raising.row_above.Goals as goal

pub returns-clause-within : goal.returns-clause-within
returns-clause-within c = some_within c.args.rows.now c.args.parents.now c.args.row c.parent.result c.requires c.parent.ensures
