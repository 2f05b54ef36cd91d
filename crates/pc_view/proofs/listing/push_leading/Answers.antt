use Rattle.std.proofs.Common.{◌≡◌, ◌∙◌, ◌≤◌, ◌++◌, ◌∷◌, [], List, ℕ, length, refl, sym, ap, append_assoc, arith}
use Rattle.std.proofs.Common.{codes, string_bytes}
use Rattle.pc_view.specs.Listing.{leading_words, row_numbers_from}
use Rattle.pc_view.proofs.LeadingRows.{ok_map}
use Rattle.pc_view.proofs.listing.push_leading.Goals as goal

-- the words of some numbers
some_leading : (numbers : List ℕ) → 1 ≤ length numbers → leading_words numbers ≡ codes "; from rows:" ++ row_numbers_from 0 numbers
some_leading [] h = absurd (omega arith)
some_leading (number ∷ rest) h = refl

pub returns-in_ok-push_str-in_default : goal.returns-in_ok-push_str-in_default
returns-in_ok-push_str-in_default c =
    let old = string_bytes c.args.text.now in
    let numbers = row_numbers_from 0 c.args.numbers.now in
    ok_map c.push_each_number.result (λ last.
    last ∙ ap (λ (text : List ℕ). text ++ numbers) c.in_ok-push_str-in_default.ensures.bytes ∙ append_assoc old (codes "; from rows:") numbers
    ∙ ap (λ (words : List ℕ). old ++ words) (sym (some_leading c.args.numbers.now c.in_default.len_at_least))) c.push_each_number.ensures
