use Rattle.std.proofs.Common.{sym, ◌∙◌}
use Rattle.pc_window_specimen.proofs.Checked.{found_table}
use Rattle.pc_window_specimen.proofs.checking.keeps.Goals as goal

pub returns : goal.returns
returns c h = found_table c.args.draft.now (sym c.is_table.ensures ∙ h)
