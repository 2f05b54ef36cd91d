use Rattle.std.proofs.Common.{◌≡◌, drop, nat_eq}
use Rattle.std.specs.List.{find, starts_with}
use Rattle.pc_lexer.specs.Spelling.{mark_spelling}
use Rattle.pc_lexer.proofs.mark.first_at.Given as goal

-- the text begins with none of the marks that were passed
abbrev pub invariant-loop-mark : goal.invariant-loop-mark
invariant-loop-mark l =
    find (λ mark. starts_with nat_eq l.text (mark_spelling mark)) (drop l.mark-index l.marks)
    ≡ find (λ mark. starts_with nat_eq l.text (mark_spelling mark)) l.marks
