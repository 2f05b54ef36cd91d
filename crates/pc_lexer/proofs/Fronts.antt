-- The fronts of a text that are pieces: each has bytes, and lies within the text.
use Rattle.std.proofs.Common.{◌≡◌, ℕ, suc, ◌+◌, ◌<◌, ◌≤◌, List, [], ◌∷◌, Bool, true, false, ◌&&◌, ◌||◌, cond, not, nat_eq, Option, Some, None, take, drop, length, get_or, refl, sym, ap, ◌∙◌}
use Rattle.std.proofs.Common.{subst, arith, lit<}
use Rattle.std.specs.Prelude.{codes, ◌==◌}
use Rattle.std.specs.List.{prefix_len, find, starts_with}
use Rattle.std.specs.Option.{option_map}
use Rattle.std.specs.Cmp.Lexicographic.{same_text}
use Rattle.std.proofs.lemmas.List.{length-take, length-drop}
use Rattle.std.proofs.lemmas.List.Sums.{prefix_len-le-length}
use Rattle.pc_word.specs.Line.{is_line_feed}
use Rattle.pc_lexer.specs.Bytes.{is_digit, is_letter, is_word_byte}
use Rattle.pc_lexer.specs.Spelling.{mark_spelling, marks, mark_at}
use Rattle.pc_lexer.specs.Number.{is_exponent, is_sign, number_length}
use Rattle.pc_lexer.specs.Piece.{line_length, comment_length, is_inner_blank, goes_on, include_length}
use Rattle.pc_lexer.specs.declared.mark.Mark.{Mark}
use Rattle.pc_lexer.specs.declared.mark.Mark.TheVariants as mark

-- a front of n bytes
pub record Front (n : ℕ) (text : List ℕ) : Type 0 where
  pub some : 0 < n
  pub within : n ≤ length text

-- the bytes with which a text begins
pub prefix_is : (text needle : List ℕ) → starts_with nat_eq text needle ≡ true → take (length needle) text ≡ needle
prefix_is text needle h = sym (same_text needle (take (length needle) text) (sym h))

pub prefix_within : (text needle : List ℕ) → take (length needle) text ≡ needle → length needle ≤ length text
prefix_within text needle h = omega (arith, length-take (length needle) text, ap length h)

-- a front that a test takes, whose first byte passes
prefix_front : (p : ℕ → Bool) (b : ℕ) (text : List ℕ) → p b ≡ true → Front (prefix_len p (b ∷ text)) (b ∷ text)
prefix_front p b text h = record {
  some = rw h (omega arith);
  within = prefix_len-le-length p (b ∷ text);
}

letter_in_word : (b : ℕ) → is_letter b ≡ true → is_word_byte b ≡ true
letter_in_word b h = ap (λ t. t || is_digit b) h

-- a word
pub word_front : (text : List ℕ) → is_letter (get_or text 0 0) ≡ true → Front (prefix_len is_word_byte text) text
word_front [] h = cc
word_front (b ∷ text) h = prefix_front is_word_byte b text (letter_in_word b h)

number_length-within : (e : Bool) (text : List ℕ) → number_length e text ≤ length text
unfolding number_length
number_length-within e [] = omega arith
number_length-within e (b ∷ text) = by (is_word_byte b || e && is_sign b) (number_length-within (is_exponent b) text)
  where
    by : (t : Bool) → number_length (is_exponent b) text ≤ length text → cond t (suc (number_length (is_exponent b) text)) 0 ≤ suc (length text)
    by true h = omega arith
    by false h = omega arith

-- a number
pub number_front : (text : List ℕ) → is_digit (get_or text 0 0) ≡ true → Front (1 + number_length false (drop 1 text)) text
number_front [] h = cc
number_front (b ∷ text) h = record { some = omega arith; within = omega (arith, number_length-within false text) }

-- a comment that begins with `//`
pub slashes_front : (text : List ℕ) → starts_with nat_eq text (codes "//") ≡ true → Front (line_length text) text
slashes_front [] h = cc
slashes_front (b ∷ text) h = prefix_front (λ b. not (is_line_feed b)) b text (ap (λ n. not (is_line_feed n)) first)
  where
    first : b ≡ 47
    first = ap (λ l. get_or l 0 0) (prefix_is (b ∷ text) (codes "//") h)

-- what is skipped after a `#`
include_found : (bytes : List ℕ) (n : ℕ) → include_length bytes ≡ Some n → n ≤ length bytes
unfolding include_length
include_found bytes n h =
    by (starts_with nat_eq (drop (prefix_len is_inner_blank bytes) bytes) (codes "include")) refl
    (goes_on (drop 7 (drop (prefix_len is_inner_blank bytes) bytes))) h
  where
    blanks : ℕ
    blanks = prefix_len is_inner_blank bytes

    word : List ℕ
    word = drop blanks bytes

    found : starts_with nat_eq word (codes "include") ≡ true → blanks + 7 + line_length (drop 7 word) ≤ length bytes
    found h =
        let fits : 7 ≤ length word = prefix_within word (codes "include") (prefix_is word (codes "include") h) in
        let some = prefix_len-le-length is_inner_blank bytes in
        let more = prefix_len-le-length (λ b. not (is_line_feed b)) (drop 7 word) in
        omega (arith, length-drop blanks bytes, length-drop 7 word)

    by : (t : Bool) → starts_with nat_eq word (codes "include") ≡ t
        → (s : Bool) → cond (t && not s) (Some (blanks + 7 + line_length (drop 7 word))) None ≡ Some n → n ≤ length bytes
    by true e true h = cc
    by true e false h = let same : blanks + 7 + line_length (drop 7 word) ≡ n = cc in subst (λ m. m ≤ length bytes) same (found e)
    by false e s h = cc

-- a skipped line
pub skipped_front : (text : List ℕ) (n : ℕ) → (get_or text 0 0 == 35) ≡ true → include_length (drop 1 text) ≡ Some n → Front (1 + n) text
skipped_front [] n h k = cc
skipped_front (b ∷ text) n h k = record { some = omega arith; within = omega (arith, include_found text n k) }

comment_found : (star : Bool) (bytes : List ℕ) (n : ℕ) → comment_length star bytes ≡ Some n → n ≤ length bytes
unfolding comment_length
comment_found star [] n h = cc
comment_found star (b ∷ bytes) n h = by (star && b == 47) (comment_length (b == 42) bytes) refl (comment_found (b == 42) bytes) h
  where
    by : (t : Bool) (found : Option ℕ) → comment_length (b == 42) bytes ≡ found
        → ((m : ℕ) → comment_length (b == 42) bytes ≡ Some m → m ≤ length bytes)
        → cond t (Some 1) (option_map suc found) ≡ Some n → n ≤ suc (length bytes)
    by true found f rest h = let same : 1 ≡ n = cc in omega arith
    by false None f rest h = cc
    by false (Some m) f rest h = let same : suc m ≡ n = cc in let within = rest m f in omega arith

-- a comment that begins with `/*`
pub comment_front : (text : List ℕ) (n : ℕ) → starts_with nat_eq text (codes "/*") ≡ true → comment_length false (drop 2 text) ≡ Some n → Front (2 + n) text
comment_front text n h k =
    let two : 2 ≤ length text = prefix_within text (codes "/*") (prefix_is text (codes "/*") h) in
    record { some = omega arith; within = omega (arith, comment_found false (drop 2 text) n k, length-drop 2 text) }

-- what is found passes the test
pub find-passes : {X : Type 0} (p : X → Bool) (xs : List X) (x : X) → find p xs ≡ Some x → p x ≡ true
find-passes p [] x h = cc
find-passes p (y ∷ xs) x h = by (p y) refl (find-passes p xs x) h
  where
    by : (t : Bool) → p y ≡ t → (find p xs ≡ Some x → p x ≡ true) → cond t (Some y) (find p xs) ≡ Some x → p x ≡ true
    by true e rest h = let same : y ≡ x = cc in ap p (sym same) ∙ e
    by false e rest h = rest h

-- a mark's spelling has bytes
pub mark_some : (m : Mark) → 0 < length (mark_spelling m)
mark_some mark.Not = lit< tt
mark_some _ = lit< tt

pub mark_spelled : (text : List ℕ) (m : Mark) → mark_at text ≡ Some m → take (length (mark_spelling m)) text ≡ mark_spelling m
unfolding mark_at
mark_spelled text m h = prefix_is text (mark_spelling m) (find-passes (λ mark. starts_with nat_eq text (mark_spelling mark)) marks m h)

pub mark_front : (text : List ℕ) (m : Mark) → mark_at text ≡ Some m → Front (length (mark_spelling m)) text
mark_front text m h =
    let is = mark_spelled text m h in
    record {
      some = mark_some m;
      within = prefix_within text (mark_spelling m) is;
    }
