-- The number that digits spell.
use Rattle.std.proofs.Common.{◌≡◌, ℕ, ◌+◌, ◌*◌, ◌<◌, ◌≤◌, List, [], ◌∷◌, Bool, true, false, cond, None, nat_lt, drop, length, get_or, refl, sym, ◌∙◌, arith}
use Rattle.std.proofs.lemmas.List.{at_drop_more}
use Rattle.std.proofs.Math.Nat.{mul-le-mul_left}
use Rattle.std.proofs.lemmas.Bool.Decides.{nat_tests}
use Rattle.pc_lexer.specs.Number.{digit_value, digits_value, as_int, int_of_digits, int_max}

-- past the greatest `int` no further digit leads back
pub as_int_above : (base n : ℕ) (bytes : List ℕ) → 0 < base → int_max < n → as_int (digits_value base n bytes) ≡ None
unfolding digits_value
as_int_above base n [] some above = grind (arith, nat_tests)
as_int_above base n (b ∷ bytes) some above =
    let least = mul-le-mul_left n some in
    by (nat_lt (digit_value b) base) (as_int_above base (n * base + digit_value b) bytes some (omega (arith, least)))
  where
    by : (t : Bool) → as_int (digits_value base (n * base + digit_value b) bytes) ≡ None → as_int (cond t (digits_value base (n * base + digit_value b) bytes) None) ≡ None
    by true e = e
    by false e = refl

-- a digit that leads past the greatest `int` ends the reading
pub too_great : (base value i : ℕ) (digits : List ℕ) → 1 ≤ base → i < length digits → as_int (digits_value base value (drop i digits)) ≡ as_int (digits_value base 0 digits)
    → int_max < value * base + digit_value (get_or digits i 0) → int_of_digits base digits ≡ None
unfolding digits_value
too_great base value i (b ∷ bytes) some within so_far above =
    sym so_far ∙ at_drop_more (λ rest. as_int (digits_value base value rest)) (b ∷ bytes) i 0 within
    ∙ by (nat_lt (digit_value (get_or (b ∷ bytes) i 0)) base)
  where
    by : (t : Bool) → as_int (cond t (digits_value base (value * base + digit_value (get_or (b ∷ bytes) i 0)) (drop (i + 1) (b ∷ bytes))) None) ≡ None
    by true = as_int_above base _ (drop (i + 1) (b ∷ bytes)) (omega arith) above
    by false = refl
too_great base value i [] some within so_far above = refl
