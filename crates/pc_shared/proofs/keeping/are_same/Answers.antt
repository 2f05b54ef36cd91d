use Rattle.std.proofs.Common.{sym, ◌∙◌}
use Rattle.pc_shared.proofs.Equality.{homes_tell}
use Rattle.pc_shared.proofs.keeping.are_same.Goals as goal

pub returns : goal.returns
returns c = λ same. homes_tell _ _ (sym c.eq.ensures ∙ same)
