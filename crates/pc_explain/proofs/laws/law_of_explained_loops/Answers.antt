use Rattle.pc_explain.proofs.Told.{told_are_emitted, explanations_tell_forms}
use Rattle.pc_explain.proofs.laws.law_of_explained_loops.Goals as goal

pub returns-clause-states : goal.returns-clause-states
returns-clause-states c = told_are_emitted

pub returns-clause-explanations : goal.returns-clause-explanations
returns-clause-explanations c = explanations_tell_forms
