-- The law is a lemma.
use Rattle.pc_stat.proofs.RankedRows.{busiest-are}
use Rattle.pc_stat.proofs.laws.laws_of_busiest_rows.Goals as goal

pub returns : goal.returns
returns c = busiest-are
