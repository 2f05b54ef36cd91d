use Rattle.std.proofs.Common.{◌∙◌}
use Rattle.pc_machine.proofs.Checks.{header-goes_on}
use Rattle.pc_machine.proofs.check.check_code.Goals as goal

pub returns : goal.returns
returns c = c.rows.ensures ∙ header-goes_on _ _ _ _ _ _ _ _ _ c.in_ok-header.ensures c.len.ensures c.len-2.ensures c.as_slice.ensures
