use Rattle.pc_accepted.proofs.Shown.{accepted_codes_are_shown, accepted_codes_agree}
use Rattle.pc_accepted.proofs.laws.law_of_accepted_codes.Goals as goal

pub returns-clause-shown : goal.returns-clause-shown
returns-clause-shown c = accepted_codes_are_shown

pub returns-clause-agree : goal.returns-clause-agree
returns-clause-agree c = accepted_codes_agree
