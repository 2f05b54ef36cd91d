use Rattle.pc_window.specs.Names.{uses}
use Rattle.pc_window.specs.Tree.{whole}
use Rattle.pc_shifts.proofs.NormalForms.{opened_normal, filling_normal, cutting_normal, rebasing_normal, unwinding_normal, tidying_normal}
use Rattle.pc_shifts.proofs.Renumbered.{renumbering_normal}
use Rattle.pc_shifts.proofs.laws.laws_of_normal_forms.Goals as goal

pub returns-clause-opened : goal.returns-clause-opened
returns-clause-opened c = opened_normal

pub returns-clause-filled : goal.returns-clause-filled
returns-clause-filled c = λ w v filled h. filling_normal (uses (whole w.front)) w v filled h

pub returns-clause-cut : goal.returns-clause-cut
returns-clause-cut c = cutting_normal

pub returns-clause-rebased : goal.returns-clause-rebased
returns-clause-rebased c = rebasing_normal

pub returns-clause-unwound : goal.returns-clause-unwound
returns-clause-unwound c = unwinding_normal

pub returns-clause-tidied : goal.returns-clause-tidied
returns-clause-tidied c = tidying_normal

pub returns-clause-renumbered : goal.returns-clause-renumbered
returns-clause-renumbered c = renumbering_normal
