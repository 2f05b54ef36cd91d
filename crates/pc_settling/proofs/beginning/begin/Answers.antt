use Rattle.pc_table.specs.StoredTable.{table_of}
use Rattle.pc_settling.proofs.BegunWindows.{begun_key}
use Rattle.pc_settling.proofs.beginning.begin.Goals as goal

pub returns-in_ok-window-in-Some-clause-key : goal.returns-in_ok-window-in-Some-clause-key
returns-in_ok-window-in-Some-clause-key c = begun_key (table_of c.args.table.now) c.in_ok-window-in-Some.window c.in_ok-window-in-Some.ensures.begun
