-- What std reads as a number is what the definition takes a word to spell.
use Rattle.std.proofs.Common.{List, ℕ, ◌∙◌, sym, ap}
use Rattle.pc_word.specs.NumberText.{number_of}
use Rattle.pc_word.proofs.NumberTexts.{number_of-parses, number_of-bytes}
use Rattle.pc_word.proofs.number_text.number_of.Goals as goal

pub returns-in-Ok : goal.returns-in-Ok
returns-in-Ok c =
    c.ok.ensures.value ∙ sym (number_of-parses c.in-Ok.text.now c.parse.result c.parse.ensures.value.0)
    ∙ ap (λ (l : List ℕ). number_of l) c.in-Ok.ensures.cases.0

pub returns-in-Err : goal.returns-in-Err
returns-in-Err c = sym (number_of-bytes c.args.word.now c.in-Err.ensures.cases.0)
