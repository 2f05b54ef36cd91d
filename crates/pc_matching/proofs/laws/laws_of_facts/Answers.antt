use Rattle.pc_matching.proofs.Listing.{listed_facts_hold, all_facts_are_listed}
use Rattle.pc_matching.proofs.laws.laws_of_facts.Goals as goal

pub returns-clause-hold : goal.returns-clause-hold
returns-clause-hold c = listed_facts_hold

pub returns-clause-all : goal.returns-clause-all
returns-clause-all c = all_facts_are_listed
