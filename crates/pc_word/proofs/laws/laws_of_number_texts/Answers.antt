use Rattle.pc_word.proofs.ReadsBack.{numbers_in-text_of, numbers_in-words}
use Rattle.pc_word.proofs.laws.laws_of_number_texts.Goals as goal

pub returns-clause-reads_back : goal.returns-clause-reads_back
returns-clause-reads_back c = numbers_in-text_of

pub returns-clause-words : goal.returns-clause-words
returns-clause-words c = numbers_in-words
