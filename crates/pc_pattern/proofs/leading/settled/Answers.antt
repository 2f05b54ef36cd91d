use Rattle.pc_table.specs.StoredTable.{table_of}
use Rattle.pc_pattern.proofs.Steps.{unwound_size, whole_size}
use Rattle.pc_pattern.proofs.leading.settled.Goals as goal

pub returns-clause-size : goal.returns-clause-size
returns-clause-size c =
    unwound_size (table_of c.args.table.now) c.args.bounds.extent.window c.args.window c.in_ok-window.window c.in_ok-window-2.window
    (whole_size c.args.window c.requires.able.size) c.in_ok-window.ensures.grown c.in_ok-window-2.ensures.size
