-- The cut of a text is of the longest pieces, and they make up the text.
use Rattle.std.proofs.Common.{◌≡◌, ℕ, zero, suc, ◌+◌, ◌<◌, ◌≤◌, List, [], ◌∷◌, ◌++◌, Bool, true, false, ◌&&◌, ◌||◌, cond, nat_eq, Option, Some, None, Result, Ok, Err, take, drop, length}
use Rattle.std.proofs.Common.{get_or, refl, sym, ap, ◌∙◌, subst, arith}
use Rattle.std.specs.Prelude.{codes, ◌==◌, bytes_eq}
use Rattle.std.specs.List.{list_all, prefix_len, starts_with}
use Rattle.std.specs.Option.{option_map}
use Rattle.std.proofs.Math.Numerals.{one-add}
use Rattle.std.proofs.lemmas.Bool.Decides.{nat_tests}
use Rattle.std.proofs.lemmas.List.{get_or-take, length-take-le, length-drop, take-append-drop, take-take}
use Rattle.std.proofs.lemmas.List.Folds.{list_all_at}
use Rattle.std.proofs.lemmas.List.Sums.{prefix_len_stops}
use Rattle.pc_lexer.specs.Bytes.{is_blank, is_letter, is_digit, is_word_byte}
use Rattle.pc_lexer.specs.Spelling.{mark_at}
use Rattle.pc_lexer.specs.Number.{is_exponent, is_sign, number_length, number_value}
use Rattle.pc_lexer.specs.Piece.{piece_or, line_length, comment_length, include_length, block_comment_at, skipped_line_at, number_piece, number_piece_at, mark_piece, mark_piece_at, piece_at}
use Rattle.pc_lexer.specs.Cut.{cut, fresh_after}
use Rattle.pc_lexer.specs.Laws.{is_word_spelling, is_number_rest, is_number, is_mark, is_token, NoTokenBeyond, IsSpelled, IsStuck, cut_text, AreLongest, CutsIntoLongest}
use Rattle.pc_lexer.specs.declared.mark.Mark.{Mark}
use Rattle.pc_lexer.specs.declared.piece.Shape.TheVariants as shape
use Rattle.pc_lexer.specs.declared.piece.Piece.{Piece}
use Rattle.pc_lexer.specs.declared.piece.Trouble.{Trouble}
use Rattle.pc_lexer.specs.declared.piece.Trouble.TheVariants as trouble
use Rattle.pc_word.proofs.Truth.{and_made, and_made_false, or_made_false}
use Rattle.pc_lexer.proofs.Fronts.{slashes_front, mark_spelled, prefix_is}
use Rattle.pc_lexer.proofs.Begun.{Begun, a_blank, a_word, a_number, a_skipped_line, a_bad_hash, a_line_comment, a_block_comment, a_mark, begun, piece_fits}
use Rattle.pc_lexer.proofs.Marks.{begins_other, no_mark_behind, no_mark_in_comment, no_longer_mark, no_mark}
use Rattle.pc_lexer.proofs.Reading.{cut-piece, cut-stuck}

-- what has none of the three forms is no token
no_form : (bytes : List ℕ) → is_word_spelling bytes ≡ false → is_number bytes ≡ false → is_mark bytes ≡ false → is_token bytes ≡ false
unfolding is_token
no_form bytes w n m = or_made_false (is_word_spelling bytes || is_number bytes) (is_mark bytes) (or_made_false (is_word_spelling bytes) (is_number bytes) w n) m

-- no word and no number begins with a byte that is neither letter nor digit
no_word : (b : ℕ) (bytes : List ℕ) → is_letter b ≡ false → is_word_spelling (b ∷ bytes) ≡ false
no_word b bytes h = and_made_false (is_letter b) (list_all is_word_byte bytes) h

no_number : (b : ℕ) (bytes : List ℕ) → is_digit b ≡ false → is_number (b ∷ bytes) ≡ false
no_number b bytes h = and_made_false (is_digit b) (is_number_rest false bytes) h

-- no front beyond n is none beyond more
beyond_more : (m n : ℕ) (text : List ℕ) → m ≤ n → NoTokenBeyond m text → NoTokenBeyond n text
beyond_more m n text le h k lt within = h k (omega arith) within

-- a byte that begins neither word, number nor mark
other_beyond : (text : List ℕ) → is_letter (get_or text 0 0) ≡ false → is_digit (get_or text 0 0) ≡ false → begins_other (get_or text 0 0) ≡ true → NoTokenBeyond 0 text
other_beyond [] l d o k lt within = absurd (omega arith)
other_beyond (b ∷ text) l d o zero lt within = absurd (omega arith)
other_beyond (b ∷ text) l d o (suc k) lt within =
    no_form (b ∷ take k text) (no_word b (take k text) l) (no_number b (take k text) d) (no_mark_behind b (take k text) o)

blank_classes : (b : ℕ) → is_blank b ≡ true → (is_letter b ≡ false) × (is_digit b ≡ false) × (begins_other b ≡ true)
blank_classes b h = (grind (arith, nat_tests), grind (arith, nat_tests), ap (λ t. t || is_letter b || is_digit b || b == 35) h)

hash_classes : (b : ℕ) → (b == 35) ≡ true → (is_letter b ≡ false) × (is_digit b ≡ false) × (begins_other b ≡ true)
hash_classes b h = (grind (arith, nat_tests), grind (arith, nat_tests), grind (arith, nat_tests))

blank_beyond : (text : List ℕ) → is_blank (get_or text 0 0) ≡ true → NoTokenBeyond 0 text
blank_beyond text h = let c = blank_classes (get_or text 0 0) h in other_beyond text c.0 c.1 c.2

hash_beyond : (text : List ℕ) → (get_or text 0 0 == 35) ≡ true → NoTokenBeyond 0 text
hash_beyond text h = let c = hash_classes (get_or text 0 0) h in other_beyond text c.0 c.1 c.2

-- a comment's front is at most the mark `/`
comment_beyond : (text : List ℕ) → get_or text 0 0 ≡ 47 → (starts_with nat_eq text (codes "//") || starts_with nat_eq text (codes "/*")) ≡ true → NoTokenBeyond 1 text
comment_beyond [] first opens k lt within = absurd (omega arith)
comment_beyond (b ∷ text) first opens zero lt within = absurd (omega arith)
comment_beyond (b ∷ text) first opens (suc k) lt within =
    no_form (b ∷ take k text) (no_word b (take k text) (ap is_letter first)) (no_number b (take k text) (ap is_digit first))
    (no_mark_in_comment (b ∷ text) (suc k) (omega arith) opens)

letter_classes : (b : ℕ) → is_letter b ≡ true → (is_word_byte b ≡ true) × (is_digit b ≡ false) × (begins_other b ≡ true)
letter_classes b h = (ap (λ t. t || is_digit b) h, grind (arith, nat_tests), grind (arith, nat_tests))

-- the longest word
word_beyond : (text : List ℕ) → is_letter (get_or text 0 0) ≡ true → NoTokenBeyond (prefix_len is_word_byte text) text
word_beyond [] h k lt within = absurd (omega arith)
word_beyond (b ∷ text) h zero lt within = absurd (omega arith)
word_beyond (b ∷ text) h (suc k) lt within =
    let c = letter_classes b h in
    let n = prefix_len is_word_byte (b ∷ text) in
    let long : n < length (take (suc k) (b ∷ text)) = omega (arith, length-take-le (suc k) (b ∷ text) within) in
    let stops : is_word_byte (get_or (take (suc k) (b ∷ text)) n 0) ≡ false
    = ap is_word_byte (get_or-take (suc k) (b ∷ text) n 0 lt) ∙ prefix_len_stops is_word_byte (b ∷ text) 0 (omega arith) in
    let fails : (is_word_byte b && list_all is_word_byte (take k text)) ≡ false = list_all_at is_word_byte (take (suc k) (b ∷ text)) n 0 long stops in
    let rest : list_all is_word_byte (take k text) ≡ false = sym (ap (λ t. t && list_all is_word_byte (take k text)) c.0) ∙ fails in
    no_form (b ∷ take k text) (ap (λ t. is_letter b && t) rest ∙ and_no (is_letter b)) (no_number b (take k text) c.1) (no_mark_behind b (take k text) c.2)
  where
    and_no : (t : Bool) → (t && false) ≡ false
    and_no true = refl
    and_no false = refl

all_prefix : (p : ℕ → Bool) (text : List ℕ) → list_all p (take (prefix_len p text) text) ≡ true
all_prefix p [] = refl
all_prefix p (b ∷ text) = by (p b) refl (all_prefix p text)
  where
    by : (t : Bool) → p b ≡ t → list_all p (take (prefix_len p text) text) ≡ true → list_all p (take (cond t (1 + prefix_len p text) 0) (b ∷ text)) ≡ true
    by true e rest = rw one-add (and_made (p b) _ e rest)
    by false e rest = refl

word_spelled : (text : List ℕ) → is_letter (get_or text 0 0) ≡ true → is_word_spelling (take (prefix_len is_word_byte text) text) ≡ true
word_spelled [] h = cc
word_spelled (b ∷ text) h =
    let c = letter_classes b h in
    let n : prefix_len is_word_byte (b ∷ text) ≡ suc (prefix_len is_word_byte text)
    = ap (λ t. cond t (1 + prefix_len is_word_byte text) 0) c.0 ∙ one-add (prefix_len is_word_byte text) in
    rw n (and_made (is_letter b) _ h (all_prefix is_word_byte text))

-- the longest number
number_stops : (e : Bool) (bytes : List ℕ) (j : ℕ) → number_length e bytes < j → j ≤ length bytes → is_number_rest e (take j bytes) ≡ false
unfolding number_length
number_stops e [] j lt within = absurd (omega arith)
number_stops e (b ∷ bytes) zero lt within = absurd (omega arith)
number_stops e (b ∷ bytes) (suc j) lt within = by (is_word_byte b || e && is_sign b) lt (number_stops (is_exponent b) bytes j)
  where
    by : (t : Bool) → cond t (suc (number_length (is_exponent b) bytes)) 0 < suc j
        → (number_length (is_exponent b) bytes < j → j ≤ length bytes → is_number_rest (is_exponent b) (take j bytes) ≡ false)
        → (t && is_number_rest (is_exponent b) (take j bytes)) ≡ false
    by true lt rest = rest (omega arith) (omega arith)
    by false lt rest = refl

number_prefix : (e : Bool) (bytes : List ℕ) → is_number_rest e (take (number_length e bytes) bytes) ≡ true
unfolding number_length
number_prefix e [] = refl
number_prefix e (b ∷ bytes) = by (is_word_byte b || e && is_sign b) refl (number_prefix (is_exponent b) bytes)
  where
    by : (t : Bool) → (is_word_byte b || e && is_sign b) ≡ t
        → is_number_rest (is_exponent b) (take (number_length (is_exponent b) bytes) bytes) ≡ true
        → is_number_rest e (take (cond t (suc (number_length (is_exponent b) bytes)) 0) (b ∷ bytes)) ≡ true
    by true h rest = and_made (is_word_byte b || e && is_sign b) _ h rest
    by false h rest = refl

digit_classes : (b : ℕ) → is_digit b ≡ true → begins_other b ≡ true
digit_classes b h = grind (arith, nat_tests)

number_beyond : (text : List ℕ) → is_letter (get_or text 0 0) ≡ false → is_digit (get_or text 0 0) ≡ true → NoTokenBeyond (1 + number_length false (drop 1 text)) text
number_beyond [] l d k lt within = absurd (omega arith)
number_beyond (b ∷ text) l d zero lt within = absurd (omega arith)
number_beyond (b ∷ text) l d (suc k) lt within =
    no_form (b ∷ take k text) (no_word b (take k text) l)
    (ap (λ t. is_digit b && t) (number_stops false text k (omega arith) (omega arith)) ∙ ap (λ t. t && false) d)
    (no_mark_behind b (take k text) (digit_classes b d))

number_spelled : (text : List ℕ) → is_digit (get_or text 0 0) ≡ true → is_number (take (1 + number_length false (drop 1 text)) text) ≡ true
number_spelled [] d = cc
number_spelled (b ∷ text) d = rw one-add (and_made (is_digit b) _ d (number_prefix false text))

-- no word or number where neither begins
mark_beyond : (text : List ℕ) (found : Option Mark) → mark_at text ≡ found → is_letter (get_or text 0 0) ≡ false → is_digit (get_or text 0 0) ≡ false
    → (k : ℕ) → 0 < k → k ≤ length text → is_mark (take k text) ≡ false → is_token (take k text) ≡ false
mark_beyond [] found e l d k some within m = absurd (omega arith)
mark_beyond (b ∷ text) found e l d zero some within m = absurd (omega arith)
mark_beyond (b ∷ text) found e l d (suc k) some within m = no_form (b ∷ take k text) (no_word b (take k text) l) (no_number b (take k text) d) m

-- a piece is spelled as its shape says, and no token goes beyond it
pub record IsLongestPiece (text : List ℕ) (piece : Piece) : Type 0 where
  pub spelled : IsSpelled piece.shape (take piece.length text)
  pub beyond : NoTokenBeyond piece.length text

abbrev LongestAt : List ℕ → Result Piece Trouble → Type 0
LongestAt text (Ok piece) = IsLongestPiece text piece
LongestAt text (Err why) = IsStuck why text

number_longest : (text : List ℕ) (value : Option ℕ) → number_value (take (1 + number_length false (drop 1 text)) text) ≡ value
    → is_letter (get_or text 0 0) ≡ false → is_digit (get_or text 0 0) ≡ true → LongestAt text (number_piece (1 + number_length false (drop 1 text)) value)
number_longest text None e l d = (1 + number_length false (drop 1 text), number_spelled text d, e, number_beyond text l d)
number_longest text (Some v) e l d = record { spelled = (number_spelled text d, v, e, refl); beyond = number_beyond text l d }

-- how what is passed over begins
blank_spelled : (text : List ℕ) → is_blank (get_or text 0 0) ≡ true → IsSpelled shape.Blank (take 1 text)
blank_spelled [] h = cc
blank_spelled (b ∷ text) h = (b, refl, h)

hash_spelled : (text : List ℕ) (n : ℕ) → (get_or text 0 0 == 35) ≡ true → starts_with nat_eq (take (1 + n) text) (codes "#") ≡ true
hash_spelled [] n h = cc
hash_spelled (b ∷ text) n h = rw one-add (grind (arith, nat_tests))

comment_spelled : (text : List ℕ) (n : ℕ) → 2 ≤ n → (starts_with nat_eq text (codes "//") || starts_with nat_eq text (codes "/*")) ≡ true
    → (starts_with nat_eq (take n text) (codes "//") || starts_with nat_eq (take n text) (codes "/*")) ≡ true
comment_spelled text n two h = ap (λ l. bytes_eq (codes "//") l || bytes_eq (codes "/*") l) (take-take 2 n text two) ∙ h

slashes_two : (text : List ℕ) → starts_with nat_eq text (codes "//") ≡ true → 2 ≤ line_length text
slashes_two text h =
    let opens : take 2 text ≡ codes "//" = prefix_is text (codes "//") h in
    let whole : text ≡ 47 ∷ 47 ∷ drop 2 text = sym (take-append-drop 2 text) ∙ ap (λ l. l ++ drop 2 text) opens in
    let size : line_length text ≡ 1 + (1 + line_length (drop 2 text)) = ap line_length whole in
    omega (arith, size)

skipped_longest : (text : List ℕ) (found : Option ℕ) → (get_or text 0 0 == 35) ≡ true
    → LongestAt text (piece_or trouble.NoPiece shape.Skipped (option_map (λ n. 1 + n) found))
skipped_longest text None h = hash_beyond text h
skipped_longest text (Some n) h = record { spelled = hash_spelled text n h; beyond = beyond_more 0 (1 + n) text (omega arith) (hash_beyond text h) }

slash_first : (text : List ℕ) (c : ℕ) → starts_with nat_eq text (47 ∷ c ∷ []) ≡ true → get_or text 0 0 ≡ 47
slash_first [] c h = cc
slash_first (b ∷ text) c h = ap (λ l. get_or l 0 0) (prefix_is (b ∷ text) (47 ∷ c ∷ []) h)

block_opens : (text : List ℕ) → starts_with nat_eq text (codes "/*") ≡ true → (starts_with nat_eq text (codes "//") || starts_with nat_eq text (codes "/*")) ≡ true
block_opens text h = by (starts_with nat_eq text (codes "//")) (starts_with nat_eq text (codes "/*")) h
  where
    by : (t s : Bool) → s ≡ true → (t || s) ≡ true
    by true s h = refl
    by false s h = h

comment_longest : (text : List ℕ) (found : Option ℕ) → starts_with nat_eq text (codes "/*") ≡ true
    → LongestAt text (piece_or trouble.OpenComment shape.Comment (option_map (λ n. 2 + n) found))
comment_longest text None h = h
comment_longest text (Some n) h = record {
  spelled = comment_spelled text (2 + n) (omega arith) (block_opens text h);
  beyond = beyond_more 1 (2 + n) text (omega arith) (comment_beyond text (slash_first text 42 h) (block_opens text h));
}

mark_longest : (text : List ℕ) (found : Option Mark) → mark_at text ≡ found
    → is_letter (get_or text 0 0) ≡ false → is_digit (get_or text 0 0) ≡ false → LongestAt text (mark_piece found)
mark_longest text None e l d = λ k some within. mark_beyond text None e l d k some within (no_mark text k e within)
mark_longest text (Some m) e l d = record {
  spelled = mark_spelled text m e;
  beyond = λ k longer within. mark_beyond text (Some m) e l d k (omega arith) within (no_longer_mark text m k e longer within);
}

longest : (fresh : Bool) (text : List ℕ) (r : Result Piece Trouble) → Begun fresh text r → LongestAt text r
unfolding number_piece_at skipped_line_at block_comment_at mark_piece_at
longest fresh text _ (a_blank h) = record { spelled = blank_spelled text h; beyond = beyond_more 0 1 text (omega arith) (blank_beyond text h) }
longest fresh text _ (a_word h) = record { spelled = word_spelled text h; beyond = word_beyond text h }
longest fresh text _ (a_number l h) = number_longest text (number_value (take (1 + number_length false (drop 1 text)) text)) refl l h
longest fresh text _ (a_skipped_line h) = skipped_longest text (include_length (drop 1 text)) h
longest fresh text _ (a_bad_hash h) = hash_beyond text h
longest fresh text _ (a_line_comment h) = record {
  spelled = comment_spelled text (line_length text) (slashes_two text h) (ap (λ t. t || starts_with nat_eq text (codes "/*")) h);
  beyond = beyond_more 1 (line_length text) text ((slashes_front text h).some)
      (comment_beyond text (slash_first text 47 h) (ap (λ t. t || starts_with nat_eq text (codes "/*")) h));
}
longest fresh text _ (a_block_comment h) = comment_longest text (comment_length false (drop 2 text)) h
longest fresh text _ (a_mark l d) = mark_longest text (mark_at text) refl l d

longest_at : (fresh : Bool) (text : List ℕ) (r : Result Piece Trouble) → piece_at fresh text ≡ r → LongestAt text r
longest_at fresh text r h = subst (LongestAt text) h (longest fresh text (piece_at fresh text) (begun fresh text))

-- the same after any bytes
cuts : (fuel : ℕ) (bytes before : List ℕ) → length bytes ≤ fuel → (cut_text (cut bytes 0 before) ≡ bytes) × AreLongest (cut bytes 0 before)
unfolding cut
cuts fuel [] before enough = (refl, tt)
cuts zero (b ∷ rest) before enough = absurd (omega arith)
cuts (suc fuel) (b ∷ rest) before enough = by (piece_at (fresh_after true before) (b ∷ rest)) refl (λ bytes before enough. cuts fuel bytes before enough)
  where
    by : (r : Result Piece Trouble) → piece_at (fresh_after true before) (b ∷ rest) ≡ r
        → ((bytes before : List ℕ) → length bytes ≤ fuel → (cut_text (cut bytes 0 before) ≡ bytes) × AreLongest (cut bytes 0 before))
        → (cut_text (cut (b ∷ rest) 0 before) ≡ b ∷ rest) × AreLongest (cut (b ∷ rest) 0 before)
    by (Err why) e more =
        subst (λ c. (cut_text c ≡ b ∷ rest) × AreLongest c) (sym (cut-stuck (b ∷ rest) before why (omega arith) e))
        (refl, longest_at (fresh_after true before) (b ∷ rest) (Err why) e)
    by (Ok piece) e more =
        let text = b ∷ rest in
        let f = piece_fits (fresh_after true before) (b ∷ rest) piece e in
        let l = longest_at (fresh_after true before) (b ∷ rest) (Ok piece) e in
        let size : length (take piece.length (b ∷ rest)) ≡ piece.length = length-take-le piece.length (b ∷ rest) f.within in
        let m = more (drop piece.length (b ∷ rest)) (before ++ take piece.length (b ∷ rest)) (omega (arith, f.some, length-drop piece.length (b ∷ rest))) in
        let whole : take piece.length (b ∷ rest) ++ cut_text (cut (drop piece.length (b ∷ rest)) 0 (before ++ take piece.length (b ∷ rest))) ≡ b ∷ rest
        = ap (λ t. take piece.length (b ∷ rest) ++ t) m.0 ∙ take-append-drop piece.length (b ∷ rest) in
        subst (λ c. (cut_text c ≡ b ∷ rest) × AreLongest c) (sym (cut-piece (b ∷ rest) before piece (omega arith) e)) (
          whole,
          (
            omega (arith, size, f.some),
            l.spelled,
            (λ k longer within. ap (λ t. is_token (take k t)) whole ∙ l.beyond k (omega (arith, size)) (omega (arith, ap length whole))),
            m.1,
          ),
        )

pub cuts_into_longest : CutsIntoLongest
cuts_into_longest text = cuts (length text) text [] (omega arith)
