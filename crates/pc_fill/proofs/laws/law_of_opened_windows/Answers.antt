use Rattle.pc_fill.proofs.Opened.{opened_fillable}
use Rattle.pc_fill.proofs.laws.law_of_opened_windows.Goals as goal

pub returns : goal.returns
returns c = opened_fillable
