use Rattle.pc_lexer.specs.models.Steps.{spellings}
use Rattle.std.proofs.Common.{◌∙◌, ap}
use Rattle.pc_lexer.proofs.Names.{symbol_in, names_in}
use Rattle.pc_lexer.proofs.lexing.symbol_of.Goals as goal

pub returns-clause-symbol : goal.returns-clause-symbol
returns-clause-symbol c = c.in_ok-symbol.ensures.index ∙ symbol_in c.args.names.now.keys c.args.name.now

pub returns-clause-kept : goal.returns-clause-kept
returns-clause-kept c = ap spellings c.in_ok-symbol.ensures.keys ∙ names_in c.args.names.now.keys c.args.name
