use Rattle.pc_matching.proofs.FoundRows.{found_rows_match, each_leaf_has_facts}
use Rattle.pc_matching.proofs.laws.laws_of_rows.Goals as goal

pub returns-clause-rows : goal.returns-clause-rows
returns-clause-rows g c = found_rows_match g.R.LeafRelation.agrees

pub returns-clause-leaves : goal.returns-clause-leaves
returns-clause-leaves g c = each_leaf_has_facts
