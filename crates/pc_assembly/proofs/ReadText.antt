-- The lines of a text that is written line by line, none of which has a line feed in it, are these lines.
use Rattle.std.proofs.Common.{ℕ, suc, ◌+◌, ◌≤◌, ◌≡◌, Bool, true, false, cond, arith}
use Rattle.std.proofs.Common.{List, [], ◌∷◌, ◌++◌, length, refl, sym, ap, ◌∙◌, None}
use Rattle.std.specs.List.{AllByRecursion, count_by}
use Rattle.pc_word.proofs.Lists.{count_more, count_both}
use Rattle.pc_word.specs.Line.{is_line_feed}
use Rattle.pc_object.specs.ObjectText.{CodeWithNotes}
use Rattle.pc_view.specs.Listing.{lines_text, listing_lines}
use Rattle.pc_view.proofs.Feeds.{Unfed, feeds-listing}
use Rattle.pc_view.proofs.Lines.{length-listing_lines}
use Rattle.pc_assembly.specs.Text.{lines_of}

-- a line, before others
line_cut : (first rest : List ℕ) → Unfed first → lines_of ((first ++ 10 ∷ []) ++ rest) ≡ first ∷ lines_of rest
unfolding lines_of
line_cut [] rest h = refl
line_cut (byte ∷ first) rest h = by (is_line_feed byte) refl (line_cut first rest)
  where
    by : (b : Bool) → is_line_feed byte ≡ b → (Unfed first → lines_of ((first ++ 10 ∷ []) ++ rest) ≡ first ∷ lines_of rest)
        → lines_of (((byte ∷ first) ++ 10 ∷ []) ++ rest) ≡ (byte ∷ first) ∷ lines_of rest
    by true e more =
        let one : count_by is_line_feed (byte ∷ first) ≡ 1 + count_by is_line_feed first =
        count_more is_line_feed byte first ∙ ap (λ t. cond t 1 0 + count_by is_line_feed first) e in
        absurd (omega (arith, one, h))
    by false e more =
        let same : count_by is_line_feed (byte ∷ first) ≡ 0 + count_by is_line_feed first =
        count_more is_line_feed byte first ∙ ap (λ t. cond t 1 0 + count_by is_line_feed first) e in
        let none : Unfed first = omega (arith, same, h) in
        rw (e, more none) refl

lines_cut : (lines : List (List ℕ)) → AllByRecursion Unfed lines → lines_of (lines_text lines) ≡ lines
unfolding lines_of
lines_cut [] h = refl
lines_cut (first ∷ rest) h = line_cut first (lines_text rest) h.0 ∙ ap (λ lines. first ∷ lines) (lines_cut rest h.1)

-- ---- as many line feeds as lines

feeds_first : (first : List ℕ) (rest : List (List ℕ))
    → count_by is_line_feed (lines_text (first ∷ rest)) ≡ suc (count_by is_line_feed first + count_by is_line_feed (lines_text rest))
feeds_first first rest =
    let one : count_by is_line_feed (10 ∷ []) ≡ 1 = refl in
    omega (arith, count_both is_line_feed (first ++ 10 ∷ []) (lines_text rest), count_both is_line_feed first (10 ∷ []), one)

-- a text has a line feed for each line at least
feeds_at_least : (lines : List (List ℕ)) → length lines ≤ count_by is_line_feed (lines_text lines)
feeds_at_least [] = omega arith
feeds_at_least (first ∷ rest) = omega (arith, feeds_first first rest, feeds_at_least rest)

-- and where it has no more, none stands in a line
all_unfed : (lines : List (List ℕ)) → count_by is_line_feed (lines_text lines) ≡ length lines → AllByRecursion Unfed lines
all_unfed [] h = tt
all_unfed (first ∷ rest) h =
    let split = feeds_first first rest in
    let least = feeds_at_least rest in
    let none : Unfed first = omega (arith, split, least, h) in
    let others : count_by is_line_feed (lines_text rest) ≡ length rest = omega (arith, split, least, h) in
    (none, all_unfed rest others)

-- the lines of a listing
pub listing_cut : (object : CodeWithNotes) → lines_of (lines_text (listing_lines None object)) ≡ listing_lines None object
listing_cut object =
    lines_cut (listing_lines None object) (all_unfed (listing_lines None object)
    (feeds-listing None object ∙ sym (length-listing_lines None object)))
