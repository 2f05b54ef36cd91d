use Rattle.pc_names.proofs.Numbering.{as_many, places}
use Rattle.pc_names.proofs.laws.law_of_declarations.Goals as goal

pub returns-clause-many : goal.returns-clause-many
returns-clause-many c = as_many

pub returns-clause-places : goal.returns-clause-places
returns-clause-places c = places
