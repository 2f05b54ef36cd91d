-- The text of numbers reads back as the numbers.
use Rattle.std.proofs.Common.{cond, ◌&&◌, not, subst, ◌≡◌, ℕ, suc, ◌+◌, ◌≤◌, Bool, true, false, eqb, List, [], ◌∷◌, ◌++◌, length, drop, refl, sym, ◌∙◌, ap, arith, ℤ, pos, w32, append_assoc, All}
use Rattle.std.specs.Prelude.{IfSome, None, negsuc, Option, Some, Result, Ok, Err}
use Rattle.std.specs.Fmt.{decimal, signed_decimal}
use Rattle.std.specs.Str.Parse.{AllDigits, IsNumeral, without_leading_sign, signed_digits_value, ParsesSigned}
use Rattle.std.proofs.Math.Seq.{drop-append_seam}
use Rattle.std.proofs.lemmas.Bool.Decides.{nat_tests}
use Rattle.std.proofs.lemmas.Fmt.{decimal_is_IsNumeral, parse-signed_decimal}
use Rattle.std.proofs.lemmas.List.Elements.{All-head, All-tail, All-cons, All-nil}
use Rattle.std.proofs.lemmas.Str.Parse.{digit_from_value}
use Rattle.pc_word.specs.Word.{IsWord}
use Rattle.pc_word.specs.NumberText.{is_separator, first_word, is_numeral, is_word, number_of, with_number, numbers_from, numbers_in, text_of}
use Rattle.pc_word.proofs.NumberTexts.{is_numeral-from, is_numeral-to, is_word-from, is_word-to, number_of-parses, first_word-other, numbers_from-word}

-- what std reads in a text, where it reads a number
read_by_std : (bytes : List ℕ) → (r : Result ℤ ℕ) × ParsesSigned {E = ℕ} w32 10 bytes r
read_by_std bytes = decided (is_numeral (without_leading_sign bytes)) (is_word (signed_digits_value 10 bytes)) refl refl
  where
    decided : (a b : Bool) → is_numeral (without_leading_sign bytes) ≡ a → is_word (signed_digits_value 10 bytes) ≡ b → (r : Result ℤ ℕ) × ParsesSigned {E = ℕ} w32 10 bytes r
    decided true true p q = (Ok (signed_digits_value 10 bytes), ((is_numeral-to (without_leading_sign bytes) p, is_word-to (signed_digits_value 10 bytes) q), refl))
    decided true false p q = (Err 0, λ h. absurd (cc (q, is_word-from (signed_digits_value 10 bytes) h.1)))
    decided false b p q = (Err 0, λ h. absurd (cc (p, is_numeral-from (without_leading_sign bytes) h.0)))

-- a word's digits spell it
pub number_of-signed_decimal : (z : ℤ) → IsWord z → number_of (signed_decimal z) ≡ Some z
number_of-signed_decimal z h =
    let read = read_by_std (signed_decimal z) in
    let small = h.sfits in
    let is_z = parse-signed_decimal w32 z (signed_decimal z) read.0 h (omega arith) refl read.1 in
    number_of-parses (signed_decimal z) read.0 read.1 ∙ rw is_z refl

-- a digit is no blank, nor is `-`
is_separator-other : (c : ℕ) → 33 ≤ c → is_separator c ≡ false
is_separator-other c h =
    let a : eqb c 32 ≡ false = grind (arith, nat_tests) in
    let b : eqb c 9 ≡ false = grind (arith, nat_tests) in
    let d : eqb c 13 ≡ false = grind (arith, nat_tests) in
    let e : eqb c 10 ≡ false = grind (arith, nat_tests) in
    rw (a, b, d, e)

-- digits before a line feed are a word
first_word-digits : (digits rest : List ℕ) → AllDigits 10 digits → first_word (digits ++ 10 ∷ rest) ≡ digits
first_word-digits [] rest h = refl
first_word-digits (c ∷ cs) rest h =
    let low : 33 ≤ c = omega (arith, (digit_from_value c h.0).0) in
    first_word-other c (cs ++ 10 ∷ rest) (is_separator-other c low) ∙ ap (λ (l : List ℕ). c ∷ l) (first_word-digits cs rest h.1)

-- a text whose first byte is no blank
record Begins_word (bytes : List ℕ) : Type 0 where
  first : ℕ
  others : List ℕ
  parts : bytes ≡ first ∷ others
  no_blank : is_separator first ≡ false

begins_digits : (digits : List ℕ) → IsNumeral 10 digits → Begins_word digits
begins_digits [] h = absurd (omega (arith, h.0))
begins_digits (c ∷ cs) h =
    let low : 33 ≤ c = omega (arith, (digit_from_value c h.1.0).0) in
    record { first = c; others = cs; parts = refl; no_blank = is_separator-other c low }

begins_line : (z : ℤ) → IsWord z → Begins_word (signed_decimal z)
begins_line (pos n) h = begins_digits (decimal n) (decimal_is_IsNumeral n (omega (arith, h.sfits))).0
begins_line (negsuc n) h = record { first = 45; others = decimal (suc n); parts = refl; no_blank = refl }

first_word-line : (z : ℤ) (rest : List ℕ) → IsWord z → first_word (signed_decimal z ++ 10 ∷ rest) ≡ signed_decimal z
first_word-line (pos n) rest h = first_word-digits (decimal n) rest (decimal_is_IsNumeral n (omega (arith, h.sfits))).0.1
first_word-line (negsuc n) rest h = ap (λ (l : List ℕ). 45 ∷ l) (first_word-digits (decimal (suc n)) rest (decimal_is_IsNumeral (suc n) (omega (arith, h.sfits))).0.1)

-- a word before a line feed is read, and then what follows
numbers_from-before_line_feed : (place : ℕ) (word rest : List ℕ) → Begins_word word → first_word (word ++ 10 ∷ rest) ≡ word
    → numbers_from place true (word ++ 10 ∷ rest) ≡ with_number place (number_of word) (numbers_from (suc (place + length word)) true rest)
numbers_from-before_line_feed place word rest begins is_word =
    let text = word ++ 10 ∷ rest in
    let after : List ℕ → List ℕ → Result (List ℤ) ℕ = λ w l. with_number place (number_of w) (numbers_from (place + length w) true l) in
    let parts : text ≡ begins.first ∷ (begins.others ++ 10 ∷ rest) = ap (λ (l : List ℕ). l ++ 10 ∷ rest) begins.parts in
    ap (λ (l : List ℕ). numbers_from place true l) parts
    ∙ numbers_from-word place begins.first (begins.others ++ 10 ∷ rest) begins.no_blank
    ∙ ap (λ (l : List ℕ). after (first_word l) (drop (length (first_word l)) l)) (sym parts)
    ∙ ap (λ (w : List ℕ). after w (drop (length w) text)) is_word
    ∙ ap (λ (l : List ℕ). after word l) (drop-append_seam word (10 ∷ rest))

-- the text of words is read as the words, wherever it begins
pub numbers_from-text : (place : ℕ) (numbers : List ℤ) → All IsWord numbers → numbers_from place true (text_of numbers) ≡ Ok numbers
numbers_from-text place [] h = refl
numbers_from-text place (z ∷ zs) h =
    let fits = All-head IsWord z zs h in
    let next = suc (place + length (signed_decimal z)) in
    ap (λ (l : List ℕ). numbers_from place true l) (append_assoc (signed_decimal z) (10 ∷ []) (text_of zs))
    ∙ numbers_from-before_line_feed place (signed_decimal z) (text_of zs) (begins_line z fits) (first_word-line z (text_of zs) fits)
    ∙ ap (λ (o : Option ℤ). with_number place o (numbers_from next true (text_of zs))) (number_of-signed_decimal z fits)
    ∙ ap (λ r. with_number place (Some z) r) (numbers_from-text next zs (All-tail IsWord z zs h))

-- the text of words reads back as the words
pub numbers_in-text_of : (numbers : List ℤ) → All IsWord numbers → numbers_in (text_of numbers) ≡ Ok numbers
unfolding numbers_in
numbers_in-text_of numbers h = numbers_from-text 0 numbers h

-- all that is read are words, if something is
abbrev WordsIfOk : Result (List ℤ) ℕ → Type 0
WordsIfOk (Ok numbers) = All IsWord numbers
WordsIfOk (Err place) = Unit {0}

WordsIfOk-with_number : (place : ℕ) (o : Option ℤ) (rest : Result (List ℤ) ℕ) → IfSome o IsWord → WordsIfOk rest → WordsIfOk (with_number place o rest)
WordsIfOk-with_number place None rest h g = tt
WordsIfOk-with_number place (Some z) (Ok zs) h g = All-cons IsWord z zs h g
WordsIfOk-with_number place (Some z) (Err later) h g = tt

number_of-word : (bytes : List ℕ) → IfSome (number_of bytes) IsWord
number_of-word bytes = spelt (is_numeral (without_leading_sign bytes)) (is_word (signed_digits_value 10 bytes)) refl refl
  where
    spelt : (a b : Bool) → is_numeral (without_leading_sign bytes) ≡ a → is_word (signed_digits_value 10 bytes) ≡ b → IfSome (number_of bytes) IsWord
    spelt true true p q = rw (p, q) (is_word-to (signed_digits_value 10 bytes) q)
    spelt true false p q = rw (p, q) tt
    spelt false b p q = rw p tt

numbers_from-words : (place : ℕ) (after_blank : Bool) (bytes : List ℕ) → WordsIfOk (numbers_from place after_blank bytes)
numbers_from-words place after_blank [] = All-nil IsWord
numbers_from-words place after_blank (byte ∷ bytes) =
    let rest = numbers_from (suc place) (is_separator byte) bytes in
    let words = numbers_from-words (suc place) (is_separator byte) bytes in
    let o = number_of (first_word (byte ∷ bytes)) in
    elim (after_blank && not (is_separator byte)) as (λ (b : Bool). WordsIfOk (cond b (with_number place o rest) rest)) [
      | true ↦ WordsIfOk-with_number place o rest (number_of-word (first_word (byte ∷ bytes))) words
      | false ↦ words
    ]

-- all that is read are words
pub numbers_in-words : (bytes : List ℕ) (numbers : List ℤ) → numbers_in bytes ≡ Ok numbers → All IsWord numbers
unfolding numbers_in
numbers_in-words bytes numbers e = subst WordsIfOk e (numbers_from-words 0 true bytes)
