-- What explains a text is what explains its program.
use Rattle.pc_explainer.proofs.Sources.{program_result}
use Rattle.pc_explainer.proofs.source.explanation_of_text.Goals as goal

pub returns-in-Ok-clause-text : goal.returns-in-Ok-clause-text
returns-in-Ok-clause-text g c = program_result _ _ _ _ _ c.explanation_of_program.result c.in-Ok.ensures c.explanation_of_program.ensures.text
