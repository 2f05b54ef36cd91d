-- A number in decimal digits is read back.
use Rattle.std.proofs.Common.{ℕ, ◌+◌, ◌-◌, ◌*◌, ◌/◌, ◌%◌, ◌^◌, ◌<◌, ◌≤◌, ◌≡◌, true, false, arith, nat_lt}
use Rattle.std.proofs.Common.{List, [], ◌∷◌, ◌++◌, length, take, drop, take_at, drop_at, refl, sym, ap, ◌∙◌, append_assoc}
use Rattle.std.proofs.Common.{length-append, append-nil}
use Rattle.std.proofs.Common.{decimal, Some, Ok}
use Rattle.std.specs.List.{prefix_len}
use Rattle.std.proofs.lemmas.Bool.Decides.{nat_tests}
use Rattle.std.proofs.lemmas.Fmt.{decimal_by_steps}
use Rattle.pc_assembly.specs.declared.bytes.Class.TheVariants as class
use Rattle.pc_assembly.specs.declared.spelling.Mark.TheVariants as mark
use Rattle.pc_assembly.specs.declared.error.Expected.{Expected}
use Rattle.pc_assembly.specs.Bytes.{is_in, is_blank, is_letter, is_digit}
use Rattle.pc_assembly.specs.Words.{is_mark, digits_value, numeral_value, number_here}

-- ---- how a number begins

-- the first byte is a digit
abbrev pub Begins : List ℕ → Type 0
Begins [] = ⊥
Begins (byte ∷ bytes) = (48 ≤ byte) × (byte ≤ 57)

begins_longer : (digits more : List ℕ) → Begins digits → Begins (digits ++ more)
begins_longer [] more h = absurd h
begins_longer (byte ∷ bytes) more h = h

pub decimal_begins : (n : ℕ) → n < 2 ^ 64 → Begins (decimal n)
decimal_begins n fits = decimal_by_steps (λ k digits. Begins digits)
    (λ k small. (omega arith, omega (arith, small)))
    (λ k digits large h. begins_longer digits _ h)
    n fits

-- a digit is no blank and no letter
digit_no_blank : (byte : ℕ) → 48 ≤ byte → byte ≤ 57 → is_blank byte ≡ false
digit_no_blank byte low high = grind (arith, nat_tests)

digit_no_letter : (byte : ℕ) → 48 ≤ byte → byte ≤ 57 → is_letter byte ≡ false
digit_no_letter byte low high = grind (arith, nat_tests)

digit_is_digit : (byte : ℕ) → 48 ≤ byte → byte ≤ 57 → is_digit byte ≡ true
digit_is_digit byte low high = grind (arith, nat_tests)

-- so no blanks and no letters stand before it
pub no_blanks : (bytes rest : List ℕ) → Begins bytes → prefix_len (is_in class.Blank) (bytes ++ rest) ≡ 0
no_blanks [] rest h = absurd h
no_blanks (byte ∷ bytes) rest h = rw (digit_no_blank byte h.0 h.1) refl

pub no_letters : (bytes rest : List ℕ) → Begins bytes → prefix_len (is_in class.Letter) (bytes ++ rest) ≡ 0
no_letters [] rest h = absurd h
no_letters (byte ∷ bytes) rest h = rw (digit_no_letter byte h.0 h.1) refl

-- nor a colon
pub no_colon : (bytes rest : List ℕ) → Begins bytes → is_mark mark.Colon (bytes ++ rest) ≡ false
no_colon [] rest h = absurd h
no_colon (byte ∷ bytes) rest h = grind (arith, nat_tests, h.0, h.1)

-- ---- its digits

-- as many digits stand at the beginning as the number has, if no digit follows
all_digits : (n : ℕ) → n < 2 ^ 64 → (rest : List ℕ)
    → prefix_len (is_in class.Digit) (decimal n ++ rest) ≡ length (decimal n) + prefix_len (is_in class.Digit) rest
all_digits n fits = decimal_by_steps Counted
    (λ k small rest. rw (digit_is_digit (48 + k) (omega arith) (omega (arith, small))) refl)
    (λ k digits large h rest.
    let byte = 48 + k % 10 in
    let is : is_digit byte ≡ true = digit_is_digit byte (omega arith) (omega arith) in
    let longer : length (digits ++ byte ∷ []) ≡ length digits + 1 = length-append digits (byte ∷ []) in
    let counts = h (byte ∷ rest) in
    rw (append_assoc digits (byte ∷ []) rest) (counts ∙ rw is (omega (arith, longer))))
    n fits
  where
    Counted : ℕ → List ℕ → Type 0
    Counted k digits =
        (rest : List ℕ) → prefix_len (is_in class.Digit) (digits ++ rest) ≡ length digits + prefix_len (is_in class.Digit) rest

-- ---- its value

Valued : ℕ → ℕ → List ℕ → Type 0
Valued most k digits = k ≤ most → (rest : List ℕ) → digits_value most 0 (digits ++ rest) ≡ digits_value most k rest

one_digit : (most before byte k : ℕ) (rest : List ℕ) → before * 10 + (byte - 48) ≡ k → k ≤ most
    → digits_value most before (byte ∷ rest) ≡ digits_value most k rest
one_digit most before byte k rest is small =
    let within : nat_lt most k ≡ false = grind (arith, nat_tests) in
    rw (is, within) refl

value_of : (most n : ℕ) → n < 2 ^ 64 → Valued most n (decimal n)
unfolding Valued
value_of most n fits = decimal_by_steps (Valued most)
    (λ k small below rest.
    let is : 0 * 10 + ((48 + k) - 48) ≡ k = omega arith in
    one_digit most 0 (48 + k) k rest is below)
    (λ k digits large h below rest.
    let byte = 48 + k % 10 in
    let is : (k / 10) * 10 + (byte - 48) ≡ k = omega arith in
    let less : k / 10 ≤ most = omega (arith, below) in
    rw (append_assoc digits (byte ∷ []) rest) (h less (byte ∷ rest) ∙ one_digit most (k / 10) byte k rest is below))
    n fits

numeral_of : (most : ℕ) (digits : List ℕ) → Begins digits → numeral_value most digits ≡ digits_value most 0 digits
numeral_of most [] h = absurd h
numeral_of most (byte ∷ bytes) h = refl

-- ---- the number

-- a number that no digit follows is read, and what follows is left
pub number_read : (most n : ℕ) (expected : Expected) (rest : List ℕ) → n ≤ most → n < 2 ^ 64 → prefix_len (is_in class.Digit) rest ≡ 0
    → number_here most expected (decimal n ++ rest) ≡ Ok (n, rest)
unfolding Valued
number_read most n expected rest small fits ends =
    let count : prefix_len (is_in class.Digit) (decimal n ++ rest) ≡ length (decimal n) = all_digits n fits rest ∙ omega (arith, ends) in
    let whole : digits_value most 0 (decimal n) ≡ Some n =
    ap (λ bytes. digits_value most 0 bytes) (sym (append-nil (decimal n))) ∙ value_of most n fits small [] in
    let taken : take (length (decimal n)) (decimal n ++ rest) ≡ decimal n = take_at (decimal n) rest (length (decimal n)) refl in
    let left : drop (length (decimal n)) (decimal n ++ rest) ≡ rest = drop_at (decimal n) rest (length (decimal n)) refl in
    rw (count, taken, left, numeral_of most (decimal n) (decimal_begins n fits), whole) refl
