use Rattle.pc_shared.proofs.MergedWindows.{merged_from}
use Rattle.pc_shared.proofs.merging.merged.Goals as goal

pub returns-clause-merged : goal.returns-clause-merged
returns-clause-merged c = merged_from c.args.window c.in_ok-later.later c.in_ok-later.ensures.merges
