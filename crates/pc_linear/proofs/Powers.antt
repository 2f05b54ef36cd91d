-- How many times 2 divides words, and what the code's test by these counts says.
use Rattle.std.proofs.Common.{◌≡◌, ◌↔◌, ℕ, zero, suc, ◌+◌, ◌*◌, ◌/◌, ◌^◌, ◌%◌, ◌<◌, ◌≤◌}
use Rattle.std.proofs.Common.{List, [], ◌∷◌, refl, sym, ◌∙◌, ap, subst, arith, ◌⊎◌, inl, inr}
use Rattle.std.proofs.lemmas.Bool.Decides.{nat_tests}
use Rattle.std.proofs.Math.Nat.{pow-suc, mul-add, min-le_left, min-le_right, le-min}
use lib.Count.{count_trailing_zeros, under}
use Rattle.std.specs.Prelude.{ℤ, pos, negsuc, true, nat_lt, min, unsigned_abs}
use Rattle.std.specs.List.{AllByRecursion}
use Rattle.pc_word.proofs.Truth.{less_of, decide_le}
use Rattle.pc_linear.specs.declared.term.Term.{Term}
use Rattle.pc_linear.specs.Form.{Form}
use Rattle.pc_linear.specs.Equality.{Divides, PowerTells}
use Rattle.pc_linear.specs.models.Powers.{twos, common_twos}
use Rattle.pc_linear.proofs.NeverEquals.{abs-times, Divides-neg}

-- so many times 2^(k + 1) is twice so many times 2^k
twice_power : (q k : ℕ) → q * 2 ^ suc k ≡ q * 2 ^ k + q * 2 ^ k
twice_power q k = ap (λ (n : ℕ). q * n) (let p = pow-suc 2 k in let e : 2 ^ suc k ≡ 2 ^ k + 2 ^ k = omega arith in e) ∙ mul-add q (2 ^ k) (2 ^ k)

-- a count of trailing zeros is at least k where 2^k divides the number
zeros_of_times : (w k n q : ℕ) → k ≤ w → n ≡ q * 2 ^ k → k ≤ count_trailing_zeros w n
unfolding count_trailing_zeros
zeros_of_times w zero n q le e = omega arith
zeros_of_times zero (suc k) n q le e = absurd (omega arith)
zeros_of_times (suc w) (suc k) n q le e =
    let twice = twice_power q k in
    let even : n % 2 ≡ 0 = omega arith in
    let half : n / 2 ≡ q * 2 ^ k = omega arith in
    let next = zeros_of_times w k (n / 2) q (omega arith) half in
    by_bit (n % 2) even next
  where
    by_bit : (d : ℕ) → d ≡ 0 → k ≤ count_trailing_zeros w (n / 2) → suc k ≤ under d (count_trailing_zeros w (n / 2))
    by_bit zero even next = omega arith
    by_bit (suc d) even next = absurd (omega arith)

-- and only there
times_of_zeros : (w k n : ℕ) → k ≤ count_trailing_zeros w n → (q : ℕ) × (n ≡ q * 2 ^ k)
unfolding count_trailing_zeros
times_of_zeros w zero n le = (n, omega arith)
times_of_zeros zero (suc k) n le = absurd (omega arith)
times_of_zeros (suc w) (suc k) n le = by_bit (n % 2) refl le (times_of_zeros w k (n / 2))
  where
    by_bit : (d : ℕ) → n % 2 ≡ d → suc k ≤ under d (count_trailing_zeros w (n / 2))
        → (k ≤ count_trailing_zeros w (n / 2) → (q : ℕ) × (n / 2 ≡ q * 2 ^ k)) → (q : ℕ) × (n ≡ q * 2 ^ suc k)
    by_bit zero even le next =
        let h = next (omega arith) in
        let twice = twice_power h.0 k in
        let half = h.1 in
        (h.0, omega arith)
    by_bit (suc d) odd le next = absurd (omega arith)

-- 2^k divides a word, k at most 32, exactly where 2 divides it so many times
pub twos_of_divides : (k : ℕ) (z : ℤ) → k ≤ 32 → Divides k z → k ≤ twos z
twos_of_divides k z le h = zeros_of_times 32 k (unsigned_abs z) (unsigned_abs h.quotient) le (ap (λ (x : ℤ). unsigned_abs x) h.is ∙ abs-times h.quotient (2 ^ k))

pub divides_of_twos : (k : ℕ) (z : ℤ) → k ≤ twos z → Divides k z
divides_of_twos k (pos n) le = let h = times_of_zeros 32 k n le in record { quotient = pos h.0; is = ap (λ (m : ℕ). pos m) h.1 }
divides_of_twos k (negsuc n) le =
    let h = times_of_zeros 32 k (suc n) le in
    let whole : Divides k (pos (suc n)) = record { quotient = pos h.0; is = ap (λ (m : ℕ). pos m) h.1 } in
    Divides-neg k (pos (suc n)) whole

-- the same of each factor
common_divides : (k most : ℕ) (ts : List Term) → k ≤ common_twos most ts → (k ≤ most) × AllByRecursion (λ (t : Term). Divides k t.factor) ts
common_divides k most [] le = (le, tt)
common_divides k most (t ∷ ts) le =
    let h = common_divides k (min most (twos t.factor)) ts le in
    let least = h.0 in
    let left = min-le_left most (twos t.factor) in
    let right = min-le_right most (twos t.factor) in
    (omega arith, (divides_of_twos k t.factor (omega arith), h.1))

divides_common : (k most : ℕ) (ts : List Term) → k ≤ 32 → k ≤ most → AllByRecursion (λ (t : Term). Divides k t.factor) ts → k ≤ common_twos most ts
divides_common k most [] small le h = le
divides_common k most (t ∷ ts) small le h =
    divides_common k (min most (twos t.factor)) ts small (le-min {k = k} {a = most} {b = twos t.factor} le (twos_of_divides k t.factor small h.0)) h.1

-- a power of two divides each factor and not the constant exactly where 2 divides the constant less often than the factors
pub fewer_twos : (d : Form) → (nat_lt (twos d.constant) (common_twos 32 d.terms) ≡ true) ↔ PowerTells d
fewer_twos d = (forth, λ h. back h (decide_le h.power (twos d.constant)))
  where
    forth : nat_lt (twos d.constant) (common_twos 32 d.terms) ≡ true → PowerTells d
    forth e =
        let lt = less_of (twos d.constant) (common_twos 32 d.terms) e in
        let h = common_divides (suc (twos d.constant)) 32 d.terms (omega arith) in
        let small = h.0 in
        record {
          power = suc (twos d.constant);
          least = omega arith;
          most = small;
          factors = h.1;
          constant = λ m. let le = twos_of_divides (suc (twos d.constant)) d.constant small m in omega arith;
        }

    less_is : (m n : ℕ) → m < n → nat_lt m n ≡ true
    less_is m n lt = grind (arith, nat_tests)

    back : (h : PowerTells d) → (h.power ≤ twos d.constant) ⊎ (twos d.constant < h.power) → nat_lt (twos d.constant) (common_twos 32 d.terms) ≡ true
    back h (inl le) = absurd (h.constant (divides_of_twos h.power d.constant le))
    back h (inr lt) =
        let le = divides_common h.power 32 d.terms h.most h.most h.factors in
        less_is (twos d.constant) (common_twos 32 d.terms) (omega arith)

-- the same of counts that are these
pub fewer_twos_as : (d : Form) (m n : ℕ) → m ≡ twos d.constant → n ≡ common_twos 32 d.terms → (nat_lt m n ≡ true) ↔ PowerTells d
fewer_twos_as d m n e k = subst (λ (x : ℕ). (nat_lt x n ≡ true) ↔ PowerTells d) (sym e) (subst (λ (x : ℕ). (nat_lt (twos d.constant) x ≡ true) ↔ PowerTells d) (sym k) (fewer_twos d))
