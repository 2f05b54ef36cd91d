-- What explains a source is what explains its text.
use Rattle.pc_command.specs.Requests.{explain_request}
use Rattle.pc_explainer.proofs.Sources.{text_result}
use Rattle.pc_explainer.proofs.source.explanation_of_source.Goals as goal

pub returns-in-Ok-clause-text : goal.returns-in-Ok-clause-text
returns-in-Ok-clause-text g c =
    text_result _ (explain_request c.args.command) _ _ _ c.explanation_of_text.result (rw c.as_slice.ensures.value c.in-Ok.ensures.text) c.explanation_of_text.ensures.text
