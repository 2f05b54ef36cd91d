use Rattle.std.proofs.Common.{◌≡◌, drop}
use Rattle.std.specs.List.{list_any}
use Rattle.pc_assembly.specs.Words.{is_next}
use Rattle.pc_assembly.proofs.names.is_any_next.Given as goal

-- none of the words that were passed stands there
abbrev pub invariant-loop-word : goal.invariant-loop-word
invariant-loop-word l = list_any (λ word. is_next word l.bytes) (drop l.word-index l.words) ≡ list_any (λ word. is_next word l.bytes) l.words
