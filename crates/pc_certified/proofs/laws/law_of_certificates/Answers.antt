use Rattle.pc_certified.proofs.Agreement.{shown_codes_agree, shown_on_inputs}
use Rattle.pc_certified.proofs.laws.law_of_certificates.Goals as goal

pub returns-clause-agree : goal.returns-clause-agree
returns-clause-agree c = shown_codes_agree

pub returns-clause-on_inputs : goal.returns-clause-on_inputs
returns-clause-on_inputs c = shown_on_inputs
