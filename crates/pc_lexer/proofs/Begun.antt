-- What begins at a place, case by case.
use Rattle.std.proofs.Common.{◌≡◌, ℕ, ◌+◌, List, [], ◌∷◌, Bool, true, false, cond, nat_eq, Option, Some, None, Result, Ok, Err, take, drop, length, get_or, refl, ap, ◌∙◌}
use Rattle.std.proofs.Common.{subst, arith, lit<}
use Rattle.std.specs.Prelude.{codes, ◌==◌, IfOk, ℤ, pos}
use Rattle.std.specs.List.{prefix_len, starts_with}
use Rattle.std.specs.Option.{option_map}
use Rattle.pc_lexer.specs.Bytes.{is_blank, is_digit, is_letter, is_word_byte}
use Rattle.pc_lexer.specs.Spelling.{mark_spelling, mark_at}
use Rattle.pc_lexer.specs.Number.{number_length, number_value}
use Rattle.pc_lexer.specs.Piece.{piece_of, piece_or, line_length, comment_length, include_length, block_comment_at, skipped_line_at, number_piece, number_piece_at, mark_piece, mark_piece_at, piece_at}
use Rattle.pc_lexer.specs.declared.mark.Mark.{Mark}
use Rattle.pc_lexer.specs.declared.piece.Shape.TheVariants as shape
use Rattle.pc_lexer.specs.declared.piece.Piece.{Piece}
use Rattle.pc_lexer.specs.declared.piece.Trouble.{Trouble}
use Rattle.pc_lexer.specs.declared.piece.Trouble.TheVariants as trouble
use Rattle.pc_lexer.proofs.Fronts.{Front, word_front, number_front, slashes_front, skipped_front, comment_front, mark_front}

-- ---- the tests of a place

-- what is left to test where the first byte is no `#`
abbrev past_hash : List ℕ → Result Piece Trouble
past_hash text =
    cond (starts_with nat_eq text (codes "//")) (Ok (piece_of shape.Comment (line_length text)))
    (cond (starts_with nat_eq text (codes "/*")) (block_comment_at text) (mark_piece_at text))

-- where it is no digit
abbrev past_digit : Bool → List ℕ → Result Piece Trouble
past_digit fresh text = cond (get_or text 0 0 == 35) (cond fresh (skipped_line_at text) (Err trouble.NoPiece)) (past_hash text)

-- where it is no letter
abbrev past_letter : Bool → List ℕ → Result Piece Trouble
past_letter fresh text = cond (is_digit (get_or text 0 0)) (number_piece_at text) (past_digit fresh text)

-- where it is no blank
abbrev past_blank : Bool → List ℕ → Result Piece Trouble
past_blank fresh text = cond (is_letter (get_or text 0 0)) (Ok (piece_of shape.Word (prefix_len is_word_byte text))) (past_letter fresh text)

-- the case that a text's first byte decides
pub data Begun (fresh : Bool) (text : List ℕ) : Result Piece Trouble → Type 0 where
  a_blank : is_blank (get_or text 0 0) ≡ true → Begun fresh text (Ok (piece_of shape.Blank 1))
  a_word : is_letter (get_or text 0 0) ≡ true → Begun fresh text (Ok (piece_of shape.Word (prefix_len is_word_byte text)))
  a_number : is_letter (get_or text 0 0) ≡ false → is_digit (get_or text 0 0) ≡ true → Begun fresh text (number_piece_at text)
  a_skipped_line : (get_or text 0 0 == 35) ≡ true → Begun fresh text (skipped_line_at text)
  a_bad_hash : (get_or text 0 0 == 35) ≡ true → Begun fresh text (Err trouble.NoPiece)
  a_line_comment : starts_with nat_eq text (codes "//") ≡ true → Begun fresh text (Ok (piece_of shape.Comment (line_length text)))
  a_block_comment : starts_with nat_eq text (codes "/*") ≡ true → Begun fresh text (block_comment_at text)
  a_mark : is_letter (get_or text 0 0) ≡ false → is_digit (get_or text 0 0) ≡ false → Begun fresh text (mark_piece_at text)

-- each text is of one of the cases
pub begun : (fresh : Bool) (text : List ℕ) → Begun fresh text (piece_at fresh text)
unfolding piece_at
begun fresh text = blank (is_blank (get_or text 0 0)) refl
  where
    comment : (t s : Bool) → starts_with nat_eq text (codes "//") ≡ t → starts_with nat_eq text (codes "/*") ≡ s
        → is_letter (get_or text 0 0) ≡ false → is_digit (get_or text 0 0) ≡ false
        → Begun fresh text (cond t (Ok (piece_of shape.Comment (line_length text))) (cond s (block_comment_at text) (mark_piece_at text)))
    comment true s h k l d = a_line_comment h
    comment false true h k l d = a_block_comment k
    comment false false h k l d = a_mark l d

    hash : (t fresh' : Bool) → (get_or text 0 0 == 35) ≡ t → is_letter (get_or text 0 0) ≡ false → is_digit (get_or text 0 0) ≡ false
        → Begun fresh text (cond t (cond fresh' (skipped_line_at text) (Err trouble.NoPiece)) (past_hash text))
    hash true true h l d = a_skipped_line h
    hash true false h l d = a_bad_hash h
    hash false fresh' h l d = comment (starts_with nat_eq text (codes "//")) (starts_with nat_eq text (codes "/*")) refl refl l d

    digit : (t : Bool) → is_digit (get_or text 0 0) ≡ t → is_letter (get_or text 0 0) ≡ false
        → Begun fresh text (cond t (number_piece_at text) (past_digit fresh text))
    digit true h l = a_number l h
    digit false h l = hash (get_or text 0 0 == 35) fresh refl l h

    letter : (t : Bool) → is_letter (get_or text 0 0) ≡ t
        → Begun fresh text (cond t (Ok (piece_of shape.Word (prefix_len is_word_byte text))) (past_letter fresh text))
    letter true h = a_word h
    letter false h = digit (is_digit (get_or text 0 0)) refl h

    blank : (t : Bool) → is_blank (get_or text 0 0) ≡ t → Begun fresh text (cond t (Ok (piece_of shape.Blank 1)) (past_blank fresh text))
    blank true h = a_blank h
    blank false h = letter (is_letter (get_or text 0 0)) refl

-- ---- a piece is a front of its text

abbrev IsFront : List ℕ → Piece → Type 0
IsFront text piece = Front piece.length text

blank_front : (text : List ℕ) → is_blank (get_or text 0 0) ≡ true → Front 1 text
blank_front [] h = cc
blank_front (b ∷ text) h = record { some = lit< tt; within = omega arith }

number_fits : (text : List ℕ) (value : Option ℕ) → Front (1 + number_length false (drop 1 text)) text
    → IfOk (number_piece (1 + number_length false (drop 1 text)) value) (IsFront text)
number_fits text None f = tt
number_fits text (Some v) f = f

skipped_fits : (text : List ℕ) (found : Option ℕ) → include_length (drop 1 text) ≡ found → (get_or text 0 0 == 35) ≡ true
    → IfOk (piece_or trouble.NoPiece shape.Skipped (option_map (λ n. 1 + n) found)) (IsFront text)
skipped_fits text None e h = tt
skipped_fits text (Some n) e h = skipped_front text n h e

comment_fits : (text : List ℕ) (found : Option ℕ) → comment_length false (drop 2 text) ≡ found → starts_with nat_eq text (codes "/*") ≡ true
    → IfOk (piece_or trouble.OpenComment shape.Comment (option_map (λ n. 2 + n) found)) (IsFront text)
comment_fits text None e h = tt
comment_fits text (Some n) e h = comment_front text n h e

mark_fits : (text : List ℕ) (found : Option Mark) → mark_at text ≡ found → IfOk (mark_piece found) (IsFront text)
mark_fits text None e = tt
mark_fits text (Some m) e = mark_front text m e

fits : (fresh : Bool) (text : List ℕ) (r : Result Piece Trouble) → Begun fresh text r → IfOk r (IsFront text)
unfolding number_piece_at skipped_line_at block_comment_at mark_piece_at
fits fresh text _ (a_blank h) = blank_front text h
fits fresh text _ (a_word h) = word_front text h
fits fresh text _ (a_number l h) = number_fits text (number_value (take (1 + number_length false (drop 1 text)) text)) (number_front text h)
fits fresh text _ (a_skipped_line h) = skipped_fits text (include_length (drop 1 text)) refl h
fits fresh text _ (a_bad_hash h) = tt
fits fresh text _ (a_line_comment h) = slashes_front text h
fits fresh text _ (a_block_comment h) = comment_fits text (comment_length false (drop 2 text)) refl h
fits fresh text _ (a_mark l d) = mark_fits text (mark_at text) refl

-- each piece is a front of the text that it begins
pub piece_fits : (fresh : Bool) (text : List ℕ) (piece : Piece) → piece_at fresh text ≡ Ok piece → Front piece.length text
piece_fits fresh text piece h = subst (λ r. IfOk r (IsFront text)) h (fits fresh text (piece_at fresh text) (begun fresh text))

-- ---- what was measured is what begins the text

pub mark_measured : (text : List ℕ) (m : Mark) (n : ℕ) → Some m ≡ mark_at text → n ≡ length (mark_spelling m)
    → ◌≡◌ {A = Result Piece Trouble} (Ok (piece_of (shape.Mark m) n)) (mark_piece_at text)
unfolding mark_piece_at
mark_measured text m n h e = ap (λ k. Ok (piece_of (shape.Mark m) k)) e ∙ ap mark_piece h

pub mark_missing : (text : List ℕ) → None ≡ mark_at text → ◌≡◌ {A = Result Piece Trouble} (Err trouble.NoPiece) (mark_piece_at text)
unfolding mark_piece_at
mark_missing text h = ap mark_piece h

pub number_measured : (text : List ℕ) (v n : ℕ) (z : ℤ) → Some v ≡ number_value (take n text) → n ≡ 1 + number_length false (drop 1 text) → z ≡ pos v
    → ◌≡◌ {A = Result Piece Trouble} (Ok (piece_of (shape.Number z) n)) (number_piece_at text)
unfolding number_piece_at
number_measured text v n z h e s =
    (λ i. Ok (piece_of (shape.Number (s i)) n)) ∙ ap (number_piece n) h ∙ ap (λ k. number_piece k (number_value (take k text))) e

pub number_misspelt : (text : List ℕ) (n : ℕ) → None ≡ number_value (take n text) → n ≡ 1 + number_length false (drop 1 text)
    → ◌≡◌ {A = Result Piece Trouble} (Err trouble.Misspelt) (number_piece_at text)
unfolding number_piece_at
number_misspelt text n h e = ap (number_piece n) h ∙ ap (λ k. number_piece k (number_value (take k text))) e

pub skipped_measured : (text : List ℕ) (found : Option ℕ) → found ≡ include_length (drop 1 text)
    → piece_or trouble.NoPiece shape.Skipped (option_map (λ n. 1 + n) found) ≡ skipped_line_at text
unfolding skipped_line_at
skipped_measured text found h = ap (λ f. piece_or trouble.NoPiece shape.Skipped (option_map (λ n. 1 + n) f)) h

pub comment_measured : (text : List ℕ) (found : Option ℕ) → found ≡ comment_length false (drop 2 text)
    → piece_or trouble.OpenComment shape.Comment (option_map (λ n. 2 + n) found) ≡ block_comment_at text
unfolding block_comment_at
comment_measured text found h = ap (λ f. piece_or trouble.OpenComment shape.Comment (option_map (λ n. 2 + n) f)) h
