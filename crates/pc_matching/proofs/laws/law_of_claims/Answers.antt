use Rattle.pc_matching.proofs.FoundRows.{found_rows_of_claims_match}
use Rattle.pc_matching.proofs.laws.law_of_claims.Goals as goal

pub returns : goal.returns
returns c = found_rows_of_claims_match
