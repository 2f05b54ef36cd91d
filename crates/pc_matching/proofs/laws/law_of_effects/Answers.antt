use Rattle.pc_matching.proofs.TakenEffects.{found_effects_match}
use Rattle.pc_matching.proofs.laws.law_of_effects.Goals as goal

pub returns : goal.returns
returns c = found_effects_match
