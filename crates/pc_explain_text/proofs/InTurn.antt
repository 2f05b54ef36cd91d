-- The lines of the states of a schedule, one state after the other.
use Rattle.std.proofs.Common.{◌≡◌, ℕ, ◌+◌, List, ◌++◌, drop, Some, sym, ◌∙◌, ap, append_assoc}
use Rattle.std.specs.Prelude.{slice_get}
use Rattle.pc_view.specs.Listing.{lines_text}
use Rattle.pc_explain.specs.EachState.{StateExplanation, each_state}
use Rattle.pc_explain.proofs.EachState.{lines_at}

-- where a text with the lines of the states from a place on is a whole, it is so with the lines of the state there, and those from the next
pub text_at : (shown : ℕ → StateExplanation → List (List ℕ)) (all : List StateExplanation) (at : ℕ) (it : StateExplanation) (old new whole : List ℕ)
    → slice_get all at ≡ Some it → new ≡ old ++ lines_text (shown at it) → old ++ lines_text (each_state shown at (drop at all)) ≡ whole
    → new ++ lines_text (each_state shown (at + 1) (drop (at + 1) all)) ≡ whole
text_at shown all at it old new whole here is before =
    let later = lines_text (each_state shown (at + 1) (drop (at + 1) all)) in
    ap (λ (text : List ℕ). text ++ later) is
    ∙ append_assoc old (lines_text (shown at it)) later
    ∙ ap (λ (text : List ℕ). old ++ text) (sym (lines_at shown all at it here))
    ∙ before
