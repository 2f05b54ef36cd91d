-- Forms are never equal exactly where the test by powers of two says so.
use Rattle.std.proofs.Common.{◌≡◌, ℕ, zero, suc, ◌+◌, ◌-◌, ◌*◌, ◌/◌, ◌^◌, ◌%◌, ◌<◌, ◌≤◌}
use Rattle.std.proofs.Common.{List, [], ◌∷◌, refl, sym, ◌∙◌, ap, subst, arith, ◌⊎◌, inl, inr}
use Rattle.std.proofs.Math.Nat.{pow-suc, mul-add-mod_self_right}
use Rattle.std.proofs.lemmas.Nat.{div-add-mod'}
use Rattle.std.specs.Prelude.{ℤ, pos, negsuc, ◌+ℤ◌, ◌*ℤ◌, neg_ℤ, Bool, true, false, if◌then◌else◌, nat_eq, ◌||◌, ◌&&◌, not, unsigned_abs}
use Rattle.std.specs.Int.{w32, int_wrap, int_rem_euclid}
use Rattle.std.proofs.lemmas.Int.{ints}
use lib.IntN.{+ℤ_idl, +ℤ_assoc, *ℤ-zero, *ℤ_comm, zero-*ℤ}
use Rattle.pc_word.proofs.Truth.{and_true, or_false, or_true}
use Rattle.pc_word.proofs.Words.{unsigned_abs-neg}
use Rattle.pc_linear.specs.declared.term.Term.{Term}
use Rattle.pc_linear.specs.Form.{Form, sum_of, ◌≈◌, form_number, Rising}
use Rattle.pc_linear.specs.Combine.{plus}
use Rattle.pc_linear.specs.Equality.{Divides}
use Rattle.std.specs.List.{list_all}
use Rattle.pc_linear.proofs.Words.{distribute, distribute_left, times_times, one_times, minus_one, wrap_zero, wrap_whole, bits_zero, add_same, times_same}
use Rattle.pc_linear.proofs.Forms.{plus-number}
use Rattle.pc_linear.proofs.Normal.{add_times-rising}

-- ---- the test

-- whether a power of two divides a number
abbrev pub divides : ℕ → ℤ → Bool
divides power number = nat_eq (unsigned_abs number % 2 ^ power) 0

-- whether a power of two divides each factor
abbrev pub divides_factors : ℕ → List Term → Bool
divides_factors power ts = list_all (λ (t : Term). divides power t.factor) ts

-- whether a power of two, from 2^1 to 2^most, divides each factor and not the constant
abbrev pub some_power_tells : ℕ → List Term → ℤ → Bool
some_power_tells zero ts constant = false
some_power_tells (suc most) ts constant =
    (divides_factors (suc most) ts && not (divides (suc most) constant)) || some_power_tells most ts constant

-- whether a difference is never 0
abbrev pub never_zero : Form → Bool
never_zero d = some_power_tells 32 d.terms d.constant

-- ---- multiples of powers of two

double : (k : ℕ) → pos (2 ^ suc k) ≡ pos (2 ^ k) +ℤ pos (2 ^ k)
double k = ap (λ (n : ℕ). pos n) (let p = pow-suc 2 k in let e : 2 ^ suc k ≡ 2 ^ k + 2 ^ k = omega arith in e)

Divides-add : (k : ℕ) (y z : ℤ) → Divides k y → Divides k z → Divides k (y +ℤ z)
Divides-add k y z p q = record {
  quotient = p.quotient +ℤ q.quotient;
  is = (λ i. p.is i +ℤ q.is i) ∙ sym (distribute p.quotient q.quotient (pos (2 ^ k)));
}

Divides-times : (k : ℕ) (y z : ℤ) → Divides k y → Divides k (y *ℤ z)
Divides-times k y z p = record {
  quotient = z *ℤ p.quotient;
  is = ap (λ (x : ℤ). x *ℤ z) p.is ∙ *ℤ_comm (p.quotient *ℤ pos (2 ^ k)) z ∙ sym (times_times z p.quotient (pos (2 ^ k)));
}

pub Divides-neg : (k : ℕ) (z : ℤ) → Divides k z → Divides k (neg_ℤ z)
Divides-neg k z p = subst (λ (x : ℤ). Divides k x) (*ℤ_comm z (negsuc 0) ∙ minus_one z) (Divides-times k z (negsuc 0) p)

-- twice as many times 2^k is so many times 2^(k + 1)
twice : (k : ℕ) (q : ℤ) → (q +ℤ q) *ℤ pos (2 ^ k) ≡ q *ℤ pos (2 ^ suc k)
twice k q = distribute q q (pos (2 ^ k)) ∙ sym (distribute_left (pos (2 ^ k)) (pos (2 ^ k)) q) ∙ ap (λ (x : ℤ). q *ℤ x) (sym (double k))

Divides-less : (k : ℕ) (z : ℤ) → Divides (suc k) z → Divides k z
Divides-less k z p = record { quotient = p.quotient +ℤ p.quotient; is = p.is ∙ sym (twice k p.quotient) }

Divides-below : (j d : ℕ) (z : ℤ) → Divides (d + j) z → Divides j z
Divides-below j zero z p = subst (λ (k : ℕ). Divides k z) (let e : zero + j ≡ j = omega arith in e) p
Divides-below j (suc d) z p = Divides-below j d z (Divides-less (d + j) z (subst (λ (k : ℕ). Divides k z) (let e : suc d + j ≡ suc (d + j) = omega arith in e) p))

-- ---- what the test says of a number

pub abs-times : (q : ℤ) (n : ℕ) → unsigned_abs (q *ℤ pos n) ≡ unsigned_abs q * n
abs-times (pos q) n = refl
abs-times (negsuc q) n = unsigned_abs-neg (pos (suc q * n))

eq_zero : (n : ℕ) → n ≡ 0 → nat_eq n 0 ≡ true
eq_zero n h = grind arith

zero_eq : (n : ℕ) → nat_eq n 0 ≡ true → n ≡ 0
zero_eq n h = grind arith

pub divides_is : (k : ℕ) (z : ℤ) → Divides k z → divides k z ≡ true
divides_is k z p = eq_zero (unsigned_abs z % 2 ^ k) (
    ap (λ (x : ℤ). unsigned_abs x % 2 ^ k) p.is
    ∙ ap (λ (n : ℕ). n % 2 ^ k) (abs-times p.quotient (2 ^ k) ∙ plus_none (unsigned_abs p.quotient * 2 ^ k))
    ∙ mul-add-mod_self_right (unsigned_abs p.quotient) (2 ^ k) 0
    ∙ none (2 ^ k))
  where
    plus_none : (n : ℕ) → n ≡ n + 0
    plus_none n = omega arith

    none : (m : ℕ) → 0 % m ≡ 0
    none m = omega arith

whole_times : (n m : ℕ) → n % m ≡ 0 → n ≡ n / m * m
whole_times n m h = let e = div-add-mod' n m in omega arith

pub divides_tells : (k : ℕ) (z : ℤ) → divides k z ≡ true → Divides k z
divides_tells k (pos n) h = record { quotient = pos (n / 2 ^ k); is = ap (λ (m : ℕ). pos m) (whole_times n (2 ^ k) (zero_eq (n % 2 ^ k) h)) }
divides_tells k (negsuc n) h =
    let p : Divides k (pos (suc n)) = record { quotient = pos (suc n / 2 ^ k); is = ap (λ (m : ℕ). pos m) (whole_times (suc n) (2 ^ k) (zero_eq (suc n % 2 ^ k) h)) } in
    Divides-neg k (pos (suc n)) p

-- a number is the word 0 exactly where it is a multiple of 2^32
pub multiple_zero : (z : ℤ) → Divides 32 z → z ≈ pos 0
multiple_zero z p = ap (int_wrap w32) p.is ∙ times_same p.quotient p.quotient (pos (2 ^ 32)) (pos 0) refl whole ∙ ap (int_wrap w32) (*ℤ-zero p.quotient)
  where
    whole : pos (2 ^ 32) ≈ pos 0
    whole = wrap_whole

pub zero_multiple : (z : ℤ) → z ≈ pos 0 → Divides 32 z
zero_multiple z h = by_sign z (bits_zero z (h ∙ wrap_zero))
  where
    by_sign : (z : ℤ) → unsigned_abs (int_rem_euclid z (pos (2 ^ 32))) ≡ 0 → Divides 32 z
    by_sign (pos n) e = record { quotient = pos (n / 2 ^ 32); is = ap (λ (m : ℕ). pos m) (whole_times n (2 ^ 32) e) }
    by_sign (negsuc n) e =
        let p : Divides 32 (pos (suc n)) = record { quotient = pos (suc n / 2 ^ 32); is = ap (λ (m : ℕ). pos m) (whole_times (suc n) (2 ^ 32) (omega arith)) } in
        Divides-neg 32 (pos (suc n)) p

-- ---- where the test is true, no values make a form 0

sum_multiple : (σ : ℕ → ℤ) (k : ℕ) (ts : List Term) → divides_factors k ts ≡ true → Divides k (sum_of σ ts)
sum_multiple σ k [] h = record { quotient = pos 0; is = sym (zero-*ℤ (pos (2 ^ k))) }
sum_multiple σ k (t ∷ ts) h =
    let p = and_true (divides k t.factor) (divides_factors k ts) h in
    Divides-add k (t.factor *ℤ σ t.variable) (sum_of σ ts) (Divides-times k t.factor (σ t.variable) (divides_tells k t.factor p.0)) (sum_multiple σ k ts p.1)

power_tells : (σ : ℕ → ℤ) (n : ℕ) (ts : List Term) (c : ℤ) → n ≤ 32 → some_power_tells n ts c ≡ true → Divides 32 (sum_of σ ts +ℤ c) → ⊥
power_tells σ zero ts c le h m = absurd (cc)
power_tells σ (suc k) ts c le h m = elim (or_true (divides_factors (suc k) ts && not (divides (suc k) c)) (some_power_tells k ts c) h) [
  | inl p ↦
      let q = and_true (divides_factors (suc k) ts) (not (divides (suc k) c)) p in
      let e : 32 ≡ 32 - suc k + suc k = omega arith in
      let whole : Divides (suc k) (sum_of σ ts +ℤ c) = Divides-below (suc k) (32 - suc k) (sum_of σ ts +ℤ c) (subst (λ (j : ℕ). Divides j (sum_of σ ts +ℤ c)) e m) in
      let both = Divides-add (suc k) (neg_ℤ (sum_of σ ts)) (sum_of σ ts +ℤ c) (Divides-neg (suc k) (sum_of σ ts) (sum_multiple σ (suc k) ts q.0)) whole in
      let rest : Divides (suc k) c = subst (λ (z : ℤ). Divides (suc k) z) (cancel (sum_of σ ts) c) both in
      let d = divides_is (suc k) c rest in
      contrary (divides (suc k) c) d q.1
  | inr p ↦ power_tells σ k ts c (omega arith) p m
]
  where
    cancel : (a b : ℤ) → neg_ℤ a +ℤ (a +ℤ b) ≡ b
    cancel a b = omega (arith, ints)

    contrary : (b : Bool) → b ≡ true → not b ≡ true → ⊥
    contrary true p q = absurd (cc)
    contrary false p q = absurd (cc)

-- ---- where it is false, some values do

abbrev odd : ℤ → ℤ
odd r = (r +ℤ r) +ℤ pos 1

halves : (n : ℕ) → (n ≡ n / 2 + n / 2) ⊎ (n ≡ n / 2 + n / 2 + 1)
halves n = grind arith

pub parity : (z : ℤ) → (r : ℤ) × ((z ≡ r +ℤ r) ⊎ (z ≡ odd r))
parity (pos n) = elim (halves n) [
  | inl e ↦ (pos (n / 2), inl (ap (λ (m : ℕ). pos m) e))
  | inr e ↦ (pos (n / 2), inr (ap (λ (m : ℕ). pos m) e))
]
parity (negsuc n) = elim (halves (suc n)) [
  | inl e ↦ (neg_ℤ (pos (suc n / 2)), inl (omega (arith, ints)))
  | inr e ↦ (negsuc (suc n / 2), inr (omega (arith, ints)))
]

times_one : (z : ℤ) → z ≡ z *ℤ pos (2 ^ 0)
times_one z = sym (*ℤ_comm z (pos 1) ∙ one_times z)

-- a factor that is no multiple of 2^(n + 1), so many times, is an odd number of times 2^n
odd_times : (n : ℕ) (f : ℤ) → (Divides (suc n) f → ⊥) → (x : ℤ) × (r : ℤ) × (f *ℤ x ≡ odd r *ℤ pos (2 ^ n))
odd_times zero f h =
    let p = parity f in
    elim p.1 [
      | inl e ↦ absurd (h (record { quotient = p.0; is = e ∙ times_one (p.0 +ℤ p.0) ∙ twice 0 p.0 }))
      | inr e ↦ (pos (2 ^ 0), p.0, ap (λ (z : ℤ). z *ℤ pos (2 ^ 0)) e)
    ]
odd_times (suc n) f h =
    let p = parity f in
    let next = odd_times n p.0 in
    elim p.1 [
      | inl e ↦
          let q = next (λ m. h (record {
            quotient = m.quotient;
            is = e ∙ (λ i. m.is i +ℤ m.is i)
                ∙ sym (distribute m.quotient m.quotient (pos (2 ^ suc n))) ∙ twice (suc n) m.quotient;
          })) in (
            q.0,
            q.1,
            ap (λ (z : ℤ). z *ℤ q.0) e ∙ distribute p.0 p.0 q.0 ∙ (λ i. q.2 i +ℤ q.2 i)
                ∙ sym (distribute_left (pos (2 ^ n)) (pos (2 ^ n)) (odd q.1)) ∙ ap (λ (z : ℤ). odd q.1 *ℤ z) (sym (double n)),
          )
      | inr e ↦ (pos (2 ^ suc n), p.0, ap (λ (z : ℤ). z *ℤ pos (2 ^ suc n)) e)
    ]

nat_eq-same : (n : ℕ) → nat_eq n n ≡ true
nat_eq-same n = grind arith

nat_eq-less : (n x : ℕ) → x < n → nat_eq n x ≡ false
nat_eq-less n x h = grind arith

-- a function with another value at one number
abbrev changed : (ℕ → ℤ) → ℕ → ℤ → ℕ → ℤ
changed σ v value x = if nat_eq v x then value else σ x

-- one variable's value raised
abbrev raised : (ℕ → ℤ) → ℕ → ℤ → ℕ → ℤ
raised σ v x = changed σ v (σ v +ℤ x)

nat_eq-more : (n x : ℕ) → n < x → nat_eq n x ≡ false
nat_eq-more n x h = grind arith

sum_unchanged : (σ : ℕ → ℤ) (v least : ℕ) (y : ℤ) (ts : List Term) → v < least → Rising least ts → sum_of (changed σ v y) ts ≡ sum_of σ ts
sum_unchanged σ v least y [] lt r = refl
sum_unchanged σ v least y (t ∷ ts) lt r =
    let le = r.0 in
    let other = nat_eq-more v t.variable (omega arith) in
    λ i. (t.factor *ℤ (if other i then y else σ t.variable)) +ℤ sum_unchanged σ v (suc t.variable) y ts (omega arith) r.1 i

-- a variable whose factor is no multiple, and what raising its value does to the sum
record Raises (k least : ℕ) (ts : List Term) : Type 0 where
  variable : ℕ
  from : least ≤ variable
  factor : ℤ
  not_multiple : divides k factor ≡ false
  sum : (σ : ℕ → ℤ) (x : ℤ) → sum_of (raised σ variable x) ts ≡ sum_of σ ts +ℤ (factor *ℤ x)

raises : (k least : ℕ) (ts : List Term) → Rising least ts → divides_factors k ts ≡ false → Raises k least ts
raises k least [] r h = absurd (cc)
raises k least (t ∷ ts) r h = by_test (divides k t.factor) refl h (λ p. raises k (suc t.variable) ts r.1 p)
  where
    exchange_last : (a b c : ℤ) → (a +ℤ b) +ℤ c ≡ (a +ℤ c) +ℤ b
    exchange_last a b c = omega (arith, ints)

    by_test : (b : Bool) → divides k t.factor ≡ b → (b && divides_factors k ts) ≡ false → (divides_factors k ts ≡ false → Raises k (suc t.variable) ts) → Raises k least (t ∷ ts)
    by_test false e p next = record {
      variable = t.variable;
      from = r.0;
      factor = t.factor;
      not_multiple = e;
      sum = λ σ x.
          (λ i. (t.factor *ℤ (if nat_eq-same t.variable i then σ t.variable +ℤ x else σ t.variable)) +ℤ sum_unchanged σ t.variable
          (suc t.variable) (σ t.variable +ℤ x) ts (omega arith) r.1 i)
          ∙ ap (λ (z : ℤ). z +ℤ sum_of σ ts) (distribute_left (σ t.variable) x t.factor)
          ∙ exchange_last (t.factor *ℤ σ t.variable) (t.factor *ℤ x) (sum_of σ ts);
    }
    by_test true e p next =
        let n = next p in
        let from = n.from in
        let le = r.0 in
        record {
          variable = n.variable;
          from = omega arith;
          factor = n.factor;
          not_multiple = n.not_multiple;
          sum = λ σ x.
              (λ i. (t.factor *ℤ (if nat_eq-less n.variable t.variable from i then σ n.variable +ℤ x else σ t.variable)) +ℤ n.sum σ x i)
              ∙ sym (+ℤ_assoc (t.factor *ℤ σ t.variable) (sum_of σ ts) (n.factor *ℤ x));
        }

-- values with which a form is a multiple of a power of two
pub record Solved (n : ℕ) (ts : List Term) (c : ℤ) : Type 0 where
  pub values : ℕ → ℤ
  pub multiple : Divides n (sum_of values ts +ℤ c)

solve : (n least : ℕ) (ts : List Term) (c : ℤ) → Rising least ts → some_power_tells n ts c ≡ false → Solved n ts c
solve zero least ts c r h = record { values = λ v. pos 0; multiple = record { quotient = sum_of (λ v. pos 0) ts +ℤ c; is = times_one (sum_of (λ v. pos 0) ts +ℤ c) } }
solve (suc n) least ts c r h =
    let q = or_false (divides_factors (suc n) ts && not (divides (suc n) c)) (some_power_tells n ts c) h in
    let s = solve n least ts c r q.1 in
    let p = parity s.multiple.quotient in
    elim p.1 [
      | inl e ↦ record { values = s.values; multiple = record { quotient = p.0; is = s.multiple.is ∙ ap (λ (z : ℤ). z *ℤ pos (2 ^ n)) e ∙ twice n p.0 } }
      | inr e ↦ by_test s p.0 e (divides_factors (suc n) ts) refl q.0
    ]
  where
    not_false : (b : Bool) → not b ≡ false → b ≡ true
    not_false true h = refl
    not_false false h = absurd (cc)

    exchange_last : (a b c : ℤ) → (a +ℤ b) +ℤ c ≡ (a +ℤ c) +ℤ b
    exchange_last a b c = omega (arith, ints)

    two_odd : (a b : ℤ) → odd a +ℤ odd b ≡ ((a +ℤ b) +ℤ pos 1) +ℤ ((a +ℤ b) +ℤ pos 1)
    two_odd a b = omega (arith, ints)

    refute : (f : ℤ) → divides (suc n) f ≡ false → Divides (suc n) f → ⊥
    refute f h m = let d = divides_is (suc n) f m in absurd (cc)

    by_test : (s : Solved n ts c) (a : ℤ) → s.multiple.quotient ≡ odd a → (b : Bool) → divides_factors (suc n) ts ≡ b → (b && not (divides (suc n) c)) ≡ false → Solved (suc n) ts c
    by_test s a e true f g = record {
      values = s.values;
      multiple = Divides-add (suc n) (sum_of s.values ts) c (sum_multiple s.values (suc n) ts f) (divides_tells (suc n) c (not_false (divides (suc n) c) g));
    }
    by_test s a e false f g =
        let up = raises (suc n) least ts r f in
        let step = odd_times n up.factor (refute up.factor up.not_multiple) in
        let more = raised s.values up.variable step.0 in
        record {
          values = more;
          multiple = record {
            quotient = (a +ℤ step.1) +ℤ pos 1;
            is =
                ap (λ (z : ℤ). z +ℤ c) (up.sum s.values step.0)
                ∙ exchange_last (sum_of s.values ts) (up.factor *ℤ step.0) c
                ∙ (λ i. (s.multiple.is ∙ ap (λ (z : ℤ). z *ℤ pos (2 ^ n)) e) i +ℤ step.2 i)
                ∙ sym (distribute (odd a) (odd step.1) (pos (2 ^ n)))
                ∙ ap (λ (z : ℤ). z *ℤ pos (2 ^ n)) (two_odd a step.1)
                ∙ twice n ((a +ℤ step.1) +ℤ pos 1);
          };
        }

-- ---- two forms

difference : (σ : ℕ → ℤ) (f g : Form) → form_number σ (plus f (negsuc 0) g) ≈ (form_number σ f +ℤ neg_ℤ (form_number σ g))
difference σ f g = plus-number σ f (negsuc 0) g ∙ ap (λ (z : ℤ). int_wrap w32 (form_number σ f +ℤ z)) (minus_one (form_number σ g))

pub same_difference : (a b : ℤ) → a ≈ b → (a +ℤ neg_ℤ b) ≈ pos 0
same_difference a b h = add_same a b (neg_ℤ b) (neg_ℤ b) h refl ∙ ap (int_wrap w32) (none b)
  where
    none : (z : ℤ) → z +ℤ neg_ℤ z ≡ pos 0
    none z = omega (arith, ints)

pub no_difference : (a b : ℤ) → (a +ℤ neg_ℤ b) ≈ pos 0 → a ≈ b
no_difference a b h = ap (int_wrap w32) (back a b) ∙ add_same (a +ℤ neg_ℤ b) (pos 0) b b h refl ∙ ap (int_wrap w32) (+ℤ_idl b)
  where
    back : (a b : ℤ) → a ≡ (a +ℤ neg_ℤ b) +ℤ b
    back a b = omega (arith, ints)

-- where the test is true, no values make the forms equal as words
pub never_equal_tells : (f g : Form) → never_zero (plus f (negsuc 0) g) ≡ true → (σ : ℕ → ℤ) → form_number σ f ≈ form_number σ g → ⊥
never_equal_tells f g h σ e =
    let d = plus f (negsuc 0) g in
    power_tells σ 32 d.terms d.constant (omega arith) h (zero_multiple (form_number σ d) (difference σ f g ∙ same_difference (form_number σ f) (form_number σ g) e))

-- where the test is false, some values make the forms equal as words
pub never_equal_finds : (f g : Form) → Rising 0 f.terms → never_zero (plus f (negsuc 0) g) ≡ false → (σ : ℕ → ℤ) × (form_number σ f ≈ form_number σ g)
never_equal_finds f g r h =
    let d = plus f (negsuc 0) g in
    let s = solve 32 0 d.terms d.constant (add_times-rising (negsuc 0) g.terms f.terms r) h in
    (s.values, no_difference (form_number s.values f) (form_number s.values g) (sym (difference s.values f g) ∙ multiple_zero (form_number s.values d) s.multiple))
