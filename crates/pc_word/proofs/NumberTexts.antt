-- What is read of a text of numbers.
use Rattle.std.proofs.Common.{◌≡◌, ℕ, suc, ◌+◌, ◌-◌, ◌^◌, ◌<◌, ◌≤◌, Bool, true, false, eqb, List, [], ◌∷◌, ◌++◌, length, take, drop, get_or}
use Rattle.std.proofs.Common.{refl, sym, ◌∙◌, ap, arith, ℤ, pos, w32, FitsSigned, add-one, add-zero, append_assoc, append-nil}
use Rattle.std.specs.Prelude.{negsuc, Option, Some, None, Result, Ok, Err, nat_lt}
use Rattle.std.specs.Prelude.{int_le, unsigned_abs}
use Rattle.std.specs.Fmt.{decimal, signed_decimal}
use Rattle.std.proofs.Math.Dec.{leb-zero}
use Rattle.std.specs.Str.{all_ascii_digits, IsAscii, IsUtf8}
use Rattle.std.specs.Str.Parse.{IsNumeral, without_leading_sign, signed_digits_value, ParsesSigned}
use Rattle.std.proofs.lemmas.Bool.Decides.{nat_tests}
use Rattle.std.proofs.lemmas.Int.{ints}
use Rattle.std.proofs.lemmas.Grind.{common_steps}
use Rattle.std.proofs.lemmas.List.{drop_all, drop-drop}
use Rattle.std.proofs.Common.{drop-cons}
use Rattle.std.proofs.lemmas.Str.Ascii.{IsAscii-nil, IsAscii-cons}
use Rattle.std.specs.Result.{result_ok}
use Rattle.std.proofs.lemmas.Str.{IsUtf8-from_ascii}
use Rattle.std.proofs.lemmas.Fmt.{IsAscii-from_digits}
use Rattle.std.proofs.lemmas.Str.Parse.{numerals_by_value, tells_all_ascii_digits}
use Rattle.pc_word.proofs.Truth.{and_true, less_of}
use Rattle.pc_word.specs.NumberText.{is_separator, first_word, is_numeral, is_word, number_of, with_number, numbers_from, numbers_in, line_of, text_of}

-- numbers before what is read
abbrev pub numbers_after : List ℤ → Result (List ℤ) ℕ → Result (List ℤ) ℕ
numbers_after numbers (Ok more) = Ok (numbers ++ more)
numbers_after numbers (Err place) = Err place

-- a word that has begun is passed over to its end
numbers_from-within : (place : ℕ) (bytes : List ℕ)
    → numbers_from place false bytes ≡ numbers_from (place + length (first_word bytes)) true (drop (length (first_word bytes)) bytes)
numbers_from-within place [] = refl
numbers_from-within place (byte ∷ bytes) = within (is_separator byte) refl (numbers_from-within (suc place) bytes)
  where
    within : (b : Bool) → is_separator byte ≡ b
        → numbers_from (suc place) false bytes ≡ numbers_from (suc place + length (first_word bytes)) true (drop (length (first_word bytes)) bytes)
        → numbers_from place false (byte ∷ bytes) ≡ numbers_from (place + length (first_word (byte ∷ bytes))) true (drop (length (first_word (byte ∷ bytes))) (byte ∷ bytes))
    within true e rest = simp (e, add-zero) refl
    within false e rest =
        let at : suc place + length (first_word bytes) ≡ place + suc (length (first_word bytes)) = omega arith in
        simp e (rest ∙ ap (λ (k : ℕ). numbers_from k true (drop (length (first_word bytes)) bytes)) at)

-- a word that spells no number ends what is read, and one that spells a number stands before it
pub numbers_from-word : (place byte : ℕ) (bytes : List ℕ) → is_separator byte ≡ false
    → numbers_from place true (byte ∷ bytes)
    ≡ with_number place (number_of (first_word (byte ∷ bytes))) (numbers_from (place + length (first_word (byte ∷ bytes))) true (drop (length (first_word (byte ∷ bytes))) (byte ∷ bytes)))
numbers_from-word place byte bytes e =
    let at : suc place + length (first_word bytes) ≡ place + suc (length (first_word bytes)) = omega arith in
    let rest = numbers_from-within (suc place) bytes ∙ ap (λ (k : ℕ). numbers_from k true (drop (length (first_word bytes)) bytes)) at in
    simp e (ap (λ r. with_number place (number_of (byte ∷ first_word bytes)) r) rest)

-- a blank is passed over
pub numbers_from-blank : (place byte : ℕ) (bytes : List ℕ) (after_blank : Bool) → is_separator byte ≡ true → numbers_from place after_blank (byte ∷ bytes) ≡ numbers_from (suc place) true bytes
numbers_from-blank place byte bytes true e = simp e refl
numbers_from-blank place byte bytes false e = simp e refl

-- the first word is a beginning of the text
pub take-first_word : (bytes : List ℕ) → take (length (first_word bytes)) bytes ≡ first_word bytes
take-first_word [] = refl
take-first_word (byte ∷ bytes) = taken (is_separator byte) refl (take-first_word bytes)
  where
    taken : (b : Bool) → is_separator byte ≡ b → take (length (first_word bytes)) bytes ≡ first_word bytes → take (length (first_word (byte ∷ bytes))) (byte ∷ bytes) ≡ first_word (byte ∷ bytes)
    taken true e rest = simp e refl
    taken false e rest = simp e (ap (λ (l : List ℕ). byte ∷ l) rest)

-- and no longer than it
pub length-first_word : (bytes : List ℕ) → length (first_word bytes) ≤ length bytes
length-first_word [] = omega arith
length-first_word (byte ∷ bytes) = short (is_separator byte) refl (length-first_word bytes)
  where
    short : (b : Bool) → is_separator byte ≡ b → length (first_word bytes) ≤ length bytes → length (first_word (byte ∷ bytes)) ≤ length (byte ∷ bytes)
    short true e rest = simp e (omega arith)
    short false e rest = simp e (omega arith)

-- no word begins at a blank
pub first_word-blank : (byte : ℕ) (bytes : List ℕ) → is_separator byte ≡ true → first_word (byte ∷ bytes) ≡ []
first_word-blank byte bytes e = simp e refl

-- a word goes on at another byte
pub first_word-other : (byte : ℕ) (bytes : List ℕ) → is_separator byte ≡ false → first_word (byte ∷ bytes) ≡ byte ∷ first_word bytes
first_word-other byte bytes e = simp e refl

pub first_word-at_blank : (bytes : List ℕ) (place : ℕ) → place < length bytes → is_separator (get_or bytes place 0) ≡ true → first_word (drop place bytes) ≡ []
first_word-at_blank bytes place h e = rw (drop-cons bytes place 0 h) (first_word-blank (get_or bytes place 0) (drop (suc place) bytes) e)

pub first_word-at_other : (bytes : List ℕ) (place : ℕ) → place < length bytes → is_separator (get_or bytes place 0) ≡ false
    → first_word (drop place bytes) ≡ get_or bytes place 0 ∷ first_word (drop (place + 1) bytes)
first_word-at_other bytes place h e = rw (drop-cons bytes place 0 h, add-one) (first_word-other (get_or bytes place 0) (drop (suc place) bytes) e)

-- numbers before numbers before what is read
pub numbers_after-push : (numbers : List ℤ) (number : ℤ) (rest : Result (List ℤ) ℕ) (place : ℕ)
    → numbers_after numbers (with_number place (Some number) rest) ≡ numbers_after (numbers ++ number ∷ []) rest
numbers_after-push numbers number (Ok more) place = ap (λ (l : List ℤ). Ok l) (sym (append_assoc numbers (number ∷ []) more))
numbers_after-push numbers number (Err later) place = refl

-- a numeral by its test and by its fact
pub is_numeral-from : (bytes : List ℕ) → IsNumeral 10 bytes → is_numeral bytes ≡ true
is_numeral-from bytes h =
    let some : nat_lt 0 (length bytes) ≡ true = grind (arith, nat_tests, h.0) in
    rw (some, (numerals_by_value (λ ds. all_ascii_digits ds ≡ true) tells_all_ascii_digits).from bytes h.1)

pub is_numeral-to : (bytes : List ℕ) → is_numeral bytes ≡ true → IsNumeral 10 bytes
is_numeral-to bytes h =
    let parts = and_true (nat_lt 0 (length bytes)) (all_ascii_digits bytes) h in
    let some : 0 < length bytes = less_of 0 (length bytes) parts.0 in
    (some, (numerals_by_value (λ ds. all_ascii_digits ds ≡ true) tells_all_ascii_digits).to bytes parts.1)

pub is_word-from : (z : ℤ) → FitsSigned w32 z → is_word z ≡ true
is_word-from (pos n) h = grind (arith, ints, nat_tests)
is_word-from (negsuc n) h = grind (arith, ints, nat_tests)

pub is_word-to : (z : ℤ) → is_word z ≡ true → FitsSigned w32 z
is_word-to (pos n) h = let lt : n < 2 ^ 31 = less_of n (2 ^ 31) h in record { sfits = lt }
is_word-to (negsuc n) h = let lt : n < 2 ^ 31 = less_of n (2 ^ 31) h in record { sfits = lt }

-- a word of a text that spells a number, and one that does not
number_of-Some : (bytes : List ℕ) → IsNumeral 10 (without_leading_sign bytes) → FitsSigned w32 (signed_digits_value 10 bytes) → number_of bytes ≡ Some (signed_digits_value 10 bytes)
number_of-Some bytes numeral fits = rw (is_numeral-from (without_leading_sign bytes) numeral, is_word-from (signed_digits_value 10 bytes) fits)

pub number_of-parses : {E : Type 0} (bytes : List ℕ) (r : Result ℤ E) → ParsesSigned w32 10 bytes r → number_of bytes ≡ result_ok r
number_of-parses bytes (Ok z) h = number_of-Some bytes h.0.0 h.0.1 ∙ ap (λ (x : ℤ). Some x) (sym h.1)
number_of-parses bytes (Err e) h = not_both (is_numeral (without_leading_sign bytes)) (is_word (signed_digits_value 10 bytes)) refl refl
  where
    not_both : (a b : Bool) → is_numeral (without_leading_sign bytes) ≡ a → is_word (signed_digits_value 10 bytes) ≡ b → number_of bytes ≡ None
    not_both true true p q = absurd (h (is_numeral-to (without_leading_sign bytes) p, is_word-to (signed_digits_value 10 bytes) q))
    not_both true false p q = rw (p, q)
    not_both false b p q = rw p

pub eq_from_test : (m n : ℕ) → eqb m n ≡ true → m ≡ n
eq_from_test m n h = grind (arith, nat_tests)

-- a sign is ASCII
IsAscii-signed_bytes : (bytes : List ℕ) → IsAscii (without_leading_sign bytes) → IsAscii bytes
IsAscii-signed_bytes [] h = IsAscii-nil
IsAscii-signed_bytes (c ∷ cs) h = by_sign (eqb c 45) (eqb c 43) refl refl
  where
    by_sign : (a b : Bool) → eqb c 45 ≡ a → eqb c 43 ≡ b → IsAscii (c ∷ cs)
    by_sign true b p q =
        let small : c < 128 = omega (arith, eq_from_test c 45 p) in
        IsAscii-cons c cs small (rw p at h)
    by_sign false true p q =
        let small : c < 128 = omega (arith, eq_from_test c 43 q) in
        IsAscii-cons c cs small (rw (p, q) at h)
    by_sign false false p q = rw (p, q) at h

-- only bytes of ASCII spell a number
pub number_of-bytes : (bytes : List ℕ) → (IsUtf8 bytes → ⊥) → number_of bytes ≡ None
number_of-bytes bytes h = not_numeral (is_numeral (without_leading_sign bytes)) refl
  where
    not_numeral : (a : Bool) → is_numeral (without_leading_sign bytes) ≡ a → number_of bytes ≡ None
    not_numeral true p = absurd (h (IsUtf8-from_ascii bytes (IsAscii-signed_bytes bytes (IsAscii-from_digits (without_leading_sign bytes) (is_numeral-to (without_leading_sign bytes) p).1))))
    not_numeral false p = rw p

-- a blank in a text is passed over
pub numbers_from-at_blank : (bytes : List ℕ) (place : ℕ) → place < length bytes → is_separator (get_or bytes place 0) ≡ true
    → numbers_from place true (drop place bytes) ≡ numbers_from (place + 1) true (drop (place + 1) bytes)
numbers_from-at_blank bytes place h e =
    rw (drop-cons bytes place 0 h, add-one) (numbers_from-blank place (get_or bytes place 0) (drop (suc place) bytes) true e)

-- a word in a text is read
pub numbers_from-at_word : (bytes : List ℕ) (place : ℕ) → place < length bytes → is_separator (get_or bytes place 0) ≡ false
    → numbers_from place true (drop place bytes)
    ≡ with_number place (number_of (first_word (drop place bytes)))
    (numbers_from (place + length (first_word (drop place bytes))) true (drop (length (first_word (drop place bytes))) (drop place bytes)))
numbers_from-at_word bytes place h e =
    rw (drop-cons bytes place 0 h) (numbers_from-word place (get_or bytes place 0) (drop (suc place) bytes) e)

-- what is left at the end of a text holds no more numbers
pub numbers_from-at_end : (bytes : List ℕ) (place : ℕ) → length bytes ≤ place → numbers_from place true (drop place bytes) ≡ Ok []
numbers_from-at_end bytes place h = ap (λ (l : List ℕ). numbers_from place true l) (drop_all place bytes h)

-- nothing before what is read
numbers_after-nil : (r : Result (List ℤ) ℕ) → numbers_after [] r ≡ r
numbers_after-nil (Ok more) = refl
numbers_after-nil (Err place) = refl

-- the whole text is left at its beginning
pub numbers_in-begin : (bytes : List ℕ) → numbers_in bytes ≡ numbers_after [] (numbers_from 0 true bytes)
unfolding numbers_in
numbers_in-begin bytes = sym (numbers_after-nil (numbers_from 0 true bytes))

-- a number is read, and appended to those before it
pub numbers_in-more : (bytes : List ℕ) (place : ℕ) (numbers : List ℤ) (number : ℤ) (word : List ℕ) → place < length bytes → is_separator (get_or bytes place 0) ≡ false
    → word ≡ first_word (drop place bytes) → Some number ≡ number_of word
    → numbers_in bytes ≡ numbers_after numbers (numbers_from place true (drop place bytes))
    → numbers_in bytes ≡ numbers_after (numbers ++ number ∷ []) (numbers_from (place + length word) true (drop (place + length word) bytes))
numbers_in-more bytes place numbers number word lt other is_word spells so_far =
    let rest = numbers_from (place + length word) true (drop (place + length word) bytes) in
    let here : numbers_from place true (drop place bytes) ≡ with_number place (Some number) rest =
    numbers_from-at_word bytes place lt other
    ∙ ap (λ (w : List ℕ). with_number place (number_of w) (numbers_from (place + length w) true (drop (length w) (drop place bytes)))) (sym is_word)
    ∙ ap (λ (l : List ℕ). with_number place (number_of word) (numbers_from (place + length word) true l)) (drop-drop (length word) place bytes)
    ∙ ap (λ (o : Option ℤ). with_number place o rest) (sym spells) in
    so_far ∙ ap (λ r. numbers_after numbers r) here ∙ numbers_after-push numbers number rest place

-- all that is left of a text
pub take-left : (bytes : List ℕ) (place : ℕ) → take (length bytes - place) (drop place bytes) ≡ drop place bytes
take-left bytes place = grind (arith, common_steps)

-- a negative number is written as `-` and the digits of its size
pub minus_before : (z : ℤ) → int_le (pos 0) z ≡ false → 45 ∷ decimal (unsigned_abs z) ≡ signed_decimal z
minus_before (pos n) h = absurd (cc (leb-zero n))
minus_before (negsuc n) h = refl

-- the text of numbers and of numbers after them
pub text_of-append : (xs ys : List ℤ) → text_of (xs ++ ys) ≡ text_of xs ++ text_of ys
text_of-append [] ys = refl
text_of-append (x ∷ xs) ys = ap (λ (l : List ℕ). line_of x ++ l) (text_of-append xs ys) ∙ sym (append_assoc (line_of x) (text_of xs) (text_of ys))

-- the text of one number is its line
pub text_of-one : (number : ℤ) → text_of (number ∷ []) ≡ line_of number
text_of-one number = append-nil (line_of number)
