-- The laws are lemmas.
use Rattle.pc_count.proofs.Within.{leaves-law, rows-law}
use Rattle.pc_count.proofs.laws.laws_of_counts.Goals as goal

pub returns-clause-rows : goal.returns-clause-rows
returns-clause-rows c = rows-law

pub returns-clause-leaves : goal.returns-clause-leaves
returns-clause-leaves c = leaves-law
