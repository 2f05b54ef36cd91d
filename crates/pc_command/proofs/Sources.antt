-- What a word for SRC names.
use Rattle.std.proofs.Common.{◌≡◌, ◌≢◌, ◌==◌, ◌^◌, ◌<◌, ℕ, Bool, true, false, List, [], ◌∷◌, refl, sym, ap, eqb-true}
use Rattle.std.specs.Prelude.{Some, None, Result, Ok, Err, nat_lt, slice_index}
use Rattle.std.specs.Result.{result_ok}
use Rattle.std.specs.Str.Parse.{IsNumeral, ParsesUnsigned, digits_value, without_leading_plus}
use Rattle.std.proofs.lemmas.Bool.{lt-ltb, ltb-true}
use Rattle.pc_word.specs.NumberText.{is_numeral}
use Rattle.pc_word.proofs.NumberTexts.{is_numeral-from, is_numeral-to}
use Rattle.pc_command.specs.Requests.{behind_at, sample_number_of}

-- after a `@`
pub behind_at-Some : (word rest : List ℕ) → word ≡ 64 ∷ rest → behind_at word ≡ Some rest
unfolding behind_at
behind_at-Some word rest e = rw e refl

-- a word that does not begin with a `@`
pub behind_at-None : (word : List ℕ) → ((rest : List ℕ) → word ≢ 64 ∷ rest) → behind_at word ≡ None
unfolding behind_at
behind_at-None [] other = refl
behind_at-None (first ∷ rest) other = by (first == 64) refl
  where
    by : (b : Bool) → (first == 64) ≡ b → behind_at (first ∷ rest) ≡ None
    by true e = absurd (other rest (ap (λ (n : ℕ). n ∷ rest) (eqb-true first 64 e)))
    by false e = simp e refl

-- and what that says of the word
pub behind_at-is_none : (word rest : List ℕ) → behind_at word ≡ None → word ≢ 64 ∷ rest
unfolding behind_at
behind_at-is_none word rest e at =
    let bad : Some rest ≡ None = rw at at e in
    cc

-- the number of digits alone is what std reads of a text without a sign
pub sample_number_of-parses : {E : Type 0} (digits : List ℕ) (read : Result ℕ E) → (slice_index digits 0 == 43) ≡ false → ParsesUnsigned 32 10 digits read
    → sample_number_of digits ≡ result_ok read
sample_number_of-parses {E = E} digits read unsigned h = by read h
  where
    same : without_leading_plus digits ≡ digits
    same = rw unsigned refl

    by : (read : Result ℕ E) → ParsesUnsigned 32 10 digits read → sample_number_of digits ≡ result_ok read
    by (Ok number) h =
        let numeral : IsNumeral 10 digits = rw same at h.0.0 in
        let small : digits_value 10 digits < 2 ^ 32 = rw same at h.0.1 in
        let is : number ≡ digits_value 10 digits = rw same at h.1 in
        rw (is_numeral-from digits numeral, lt-ltb _ _ small) (ap (λ (n : ℕ). Some n) (sym is))
    by (Err why) h = none (is_numeral digits) (nat_lt (digits_value 10 digits) (2 ^ 32)) refl refl
      where
        none : (a b : Bool) → is_numeral digits ≡ a → nat_lt (digits_value 10 digits) (2 ^ 32) ≡ b → sample_number_of digits ≡ None
        none true true numeral small =
            let both : IsNumeral 10 (without_leading_plus digits) = rw same (is_numeral-to digits numeral) in
            let fits : digits_value 10 (without_leading_plus digits) < 2 ^ 32 = rw same (ltb-true _ _ small) in
            absurd (h (both, fits))
        none true false numeral small = rw (numeral, small) refl
        none false b numeral small = rw numeral refl
