-- The law is a lemma.
use Rattle.pc_view.proofs.LeadsTo.{leading_rows-lead}
use Rattle.pc_view.proofs.laws.laws_of_leading_rows.Goals as goal

pub returns : goal.returns
returns c = leading_rows-lead
