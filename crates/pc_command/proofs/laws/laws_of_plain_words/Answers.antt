-- The laws are lemmas.
use Rattle.pc_command.proofs.CheckWords.{check_words-ask}
use Rattle.pc_command.proofs.PlainWords.{no_words-command, plain_word-explains, plain_word-profiles, plain_word-simulates, plain_word-views, plain_words-assemble, plain_words-compile}
use Rattle.pc_command.proofs.laws.laws_of_plain_words.Goals as goal

pub returns-clause-compiler : goal.returns-clause-compiler
returns-clause-compiler c = plain_words-compile

pub returns-clause-assembler : goal.returns-clause-assembler
returns-clause-assembler c = plain_words-assemble

pub returns-clause-simulator : goal.returns-clause-simulator
returns-clause-simulator c = plain_word-simulates

pub returns-clause-viewer : goal.returns-clause-viewer
returns-clause-viewer c = plain_word-views

pub returns-clause-profiler : goal.returns-clause-profiler
returns-clause-profiler c = plain_word-profiles

pub returns-clause-checker : goal.returns-clause-checker
returns-clause-checker c = check_words-ask

pub returns-clause-explainer : goal.returns-clause-explainer
returns-clause-explainer c = plain_word-explains

pub returns-clause-no_words : goal.returns-clause-no_words
returns-clause-no_words c = no_words-command
