use Rattle.std.proofs.Common.{◌≡◌, drop}
use Rattle.std.specs.Prelude.{bytes_eq}
use Rattle.std.specs.List.{find}
use Rattle.pc_lexer.specs.Spelling.{keyword_spelling}
use Rattle.pc_lexer.proofs.keyword.first_spelled.Given as goal

-- the keywords that were passed do not spell the word
abbrev pub invariant-loop-key : goal.invariant-loop-key
invariant-loop-key l =
    find (λ key. bytes_eq (keyword_spelling key) l.word) (drop l.key-index l.keys)
    ≡ find (λ key. bytes_eq (keyword_spelling key) l.word) l.keys
