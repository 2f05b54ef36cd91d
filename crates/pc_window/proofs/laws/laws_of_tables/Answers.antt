use Rattle.pc_window.proofs.There.{opened_there, opened_live, tidies_there, tidies_fewer, rebases_there, fills_there, cuts_there}
use Rattle.pc_window.proofs.laws.laws_of_tables.Goals as goal

pub returns-clause-opened : goal.returns-clause-opened
returns-clause-opened c = opened_there

pub returns-clause-live : goal.returns-clause-live
returns-clause-live c = opened_live

pub returns-clause-tidied : goal.returns-clause-tidied
returns-clause-tidied c = tidies_there

pub returns-clause-fewer : goal.returns-clause-fewer
returns-clause-fewer c = tidies_fewer

pub returns-clause-rebased : goal.returns-clause-rebased
returns-clause-rebased c = rebases_there

pub returns-clause-filled : goal.returns-clause-filled
returns-clause-filled c = fills_there

pub returns-clause-cut : goal.returns-clause-cut
returns-clause-cut c = cuts_there
