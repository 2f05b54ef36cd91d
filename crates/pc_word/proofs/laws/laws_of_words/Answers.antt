use Rattle.pc_word.proofs.Words.{IsWord-apply, word_below-order, word_div-word_rem}
use Rattle.pc_word.proofs.laws.laws_of_words.Goals as goal

pub returns-clause-closed : goal.returns-clause-closed
returns-clause-closed c = IsWord-apply

pub returns-clause-below : goal.returns-clause-below
returns-clause-below c = word_below-order

pub returns-clause-division : goal.returns-clause-division
returns-clause-division c = word_div-word_rem
