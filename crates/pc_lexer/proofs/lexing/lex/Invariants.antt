use Rattle.std.proofs.Common.{◌-◌, ◌≤◌, length}
use Rattle.indexmap.specs.IndexSet.{index_set_len}
use Rattle.pc_word.specs.SourceLimits.{most_tokens}
use Rattle.pc_lexer.specs.models.Steps.{spellings}
use Rattle.pc_lexer.proofs.Reading.{Reads}
use Rattle.pc_lexer.proofs.lexing.lex.Given as goal

-- the tokens so far and what is left read as the whole text
abbrev pub invariant-loop-offset : goal.invariant-loop-offset
invariant-loop-offset l = record {
  reads : Reads l.text l.tokens (spellings l.names.keys) l.offset l.line l.fresh;
  few : length l.tokens ≤ most_tokens;
  names_few : index_set_len l.names ≤ length l.tokens;
}

abbrev pub decreases-loop-offset : goal.decreases-loop-offset
decreases-loop-offset l = length l.text - l.offset
