use Rattle.pc_lexer.proofs.Longest.{cuts_into_longest}
use Rattle.pc_lexer.proofs.Numbering.{numbers_names, spells_names}
use Rattle.pc_lexer.proofs.laws.lexer_laws.Goals as goal

pub returns-clause-longest : goal.returns-clause-longest
returns-clause-longest c = cuts_into_longest

pub returns-clause-symbols : goal.returns-clause-symbols
returns-clause-symbols c = numbers_names

pub returns-clause-names : goal.returns-clause-names
returns-clause-names c = spells_names
