use Rattle.pc_window.proofs.CutRows.{cuts_keep, rows_do_paths}
use Rattle.pc_window.proofs.Proper.{cuts_proper}
use Rattle.pc_window.proofs.Settling.{cuts_front}
use Rattle.pc_window.proofs.FilledRows.{filled_rows_keep}
use Rattle.pc_window.proofs.LegalRows.{rows_are_legal}
use Rattle.pc_window.proofs.laws.laws_of_cutting.Goals as goal

pub returns-clause-rows : goal.returns-clause-rows
returns-clause-rows c = rows_do_paths

pub returns-clause-proper : goal.returns-clause-proper
returns-clause-proper c = cuts_proper

pub returns-clause-keeps : goal.returns-clause-keeps
returns-clause-keeps c = cuts_keep

pub returns-clause-items : goal.returns-clause-items
returns-clause-items c = cuts_front

pub returns-clause-filled : goal.returns-clause-filled
returns-clause-filled c = filled_rows_keep

pub returns-clause-legal : goal.returns-clause-legal
returns-clause-legal c = rows_are_legal
