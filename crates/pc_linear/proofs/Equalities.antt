-- When forms are equal: the tests by their difference, and by the values of their variables.
use Rattle.std.proofs.Common.{◌≡◌, ◌≢◌, ◌↔◌, ℕ, zero, suc, ◌≤◌, ◌⊎◌, inl, inr, List, [], ◌∷◌, refl, sym, ◌∙◌, ap, subst, arith}
use Rattle.std.specs.Prelude.{ℤ, pos, negsuc, neg_ℤ, ◌+ℤ◌, ◌*ℤ◌, Bool, true, false, not, ◌&&◌, ◌||◌}
use Rattle.std.specs.List.{AllByRecursion}
use Rattle.std.specs.Int.{w32, int_wrap}
use Rattle.std.proofs.lemmas.Int.{ints, SFits-int_wrap, int_wrap_fits}
use lib.IntN.{+ℤ_idl, *ℤ-zero}
use Rattle.pc_word.specs.Word.{IsWord}
use Rattle.pc_word.proofs.Truth.{and_true, and_made, not_true, decide_le, or_true}
use Rattle.pc_linear.specs.declared.term.Term.{Term}
use Rattle.pc_linear.specs.Form.{Form, IsNormal, form_number, form_value, Means, ◌≈◌, sum_of, factor_of}
use Rattle.pc_linear.specs.Combine.{difference, constant_form}
use Rattle.pc_linear.specs.Equality.{NeverEqual, SometimesEqual, AlwaysEqual, Divides, PowerTells, IsNeverZero, IsAlwaysZero}
use Rattle.pc_linear.proofs.Words.{wrap_same, wrap_zero, add_same}
use Rattle.pc_linear.proofs.Forms.{means_number}
use Rattle.pc_linear.proofs.Values.{value-same}
use Rattle.pc_linear.proofs.Normal.{plus-normal, plus-factor, same_form, constant-normal, factor-word, factor-sum, only}
use Rattle.pc_linear.proofs.NeverEquals.{divides, divides_factors, some_power_tells, never_zero, divides_is, divides_tells, multiple_zero, no_difference, never_equal_tells, never_equal_finds}

-- ---- the test by powers, as a fact

-- where a power passes the test for each factor, it divides each
all_divide : (k : ℕ) (ts : List Term) → divides_factors k ts ≡ true → AllByRecursion (λ (t : Term). Divides k t.factor) ts
all_divide k [] h = tt
all_divide k (t ∷ ts) h = let p = and_true (divides k t.factor) (divides_factors k ts) h in (divides_tells k t.factor p.0, all_divide k ts p.1)

divide_all : (k : ℕ) (ts : List Term) → AllByRecursion (λ (t : Term). Divides k t.factor) ts → divides_factors k ts ≡ true
divide_all k [] h = refl
divide_all k (t ∷ ts) h = and_made (divides k t.factor) (divides_factors k ts) (divides_is k t.factor h.0) (divide_all k ts h.1)

-- where the test passes, a power tells
power_told : (n : ℕ) (d : Form) → n ≤ 32 → some_power_tells n d.terms d.constant ≡ true → PowerTells d
power_told zero d le h = absurd (cc)
power_told (suc n) d le h = elim (or_true (divides_factors (suc n) d.terms && not (divides (suc n) d.constant)) (some_power_tells n d.terms d.constant) h) [
  | inl p ↦
      let q = and_true (divides_factors (suc n) d.terms) (not (divides (suc n) d.constant)) p in
      record {
        power = suc n;
        least = omega arith;
        most = le;
        factors = all_divide (suc n) d.terms q.0;
        constant = λ m. contrary (divides_is (suc n) d.constant m) (not_true (divides (suc n) d.constant) q.1);
      }
  | inr p ↦ power_told n d (omega arith) p
]
  where
    contrary : {b : Bool} → b ≡ true → b ≡ false → ⊥
    contrary p q = absurd (cc)

-- where a power tells, the test passes
tells_power : (n k : ℕ) (d : Form) → 1 ≤ k → k ≤ n → AllByRecursion (λ (t : Term). Divides k t.factor) d.terms
    → (Divides k d.constant → ⊥) → some_power_tells n d.terms d.constant ≡ true
tells_power zero k d least le h c = absurd (omega arith)
tells_power (suc n) k d least le h c = elim (decide_le k n) [
  | inl le ↦ or_later (divides_factors (suc n) d.terms && not (divides (suc n) d.constant)) (some_power_tells n d.terms d.constant) (tells_power n k d least le h c)
  | inr lt ↦
      let e : k ≡ suc n = omega arith in
      or_first (divides_factors (suc n) d.terms && not (divides (suc n) d.constant)) (some_power_tells n d.terms d.constant)
      (and_made (divides_factors (suc n) d.terms) (not (divides (suc n) d.constant))
      (divide_all (suc n) d.terms (subst (λ (j : ℕ). AllByRecursion (λ (t : Term). Divides j t.factor) d.terms) e h))
      (fails (divides (suc n) d.constant) refl (subst (λ (j : ℕ). Divides j d.constant → ⊥) e c)))
]
  where
    or_first : (a b : Bool) → a ≡ true → (a || b) ≡ true
    or_first true b h = refl
    or_first false b h = absurd (cc)

    or_later : (a b : Bool) → b ≡ true → (a || b) ≡ true
    or_later true b h = refl
    or_later false b h = h

    fails : (b : Bool) → divides (suc n) d.constant ≡ b → (Divides (suc n) d.constant → ⊥) → not b ≡ true
    fails true e c = absurd (c (divides_tells (suc n) d.constant e))
    fails false e c = refl

-- the test passes exactly where a power tells
never_zero-exact : (d : Form) → (never_zero d ≡ true) ↔ PowerTells d
never_zero-exact d = (λ h. power_told 32 d (omega arith) h, λ h. tells_power 32 h.power d h.least h.most h.factors h.constant)

-- ---- never, sometimes

-- an answer that is true exactly where a fact holds
answer_no : (b : Bool) (P : Type 0) → (b ≡ true) ↔ P → b ≡ false → P → ⊥
answer_no b P h e p = let t = h.1 p in absurd (cc)

module _ (b : Bool) (f g : Form) (p : IsNormal f) (tells : (b ≡ true) ↔ PowerTells (difference f g)) where
  told : b ≡ true → NeverEqual f g
  told e σ = never_equal_tells f g ((never_zero-exact (difference f g)).1 (tells.0 e)) σ

  found : b ≡ false → SometimesEqual f g
  found e =
      let h = never_equal_finds f g p.rising (fails (never_zero (difference f g)) refl) in
      let words : (v : ℕ) → int_wrap w32 (h.0 v) ≈ h.0 v = λ v. wrap_same (h.0 v) in
      record {
        values = λ v. int_wrap w32 (h.0 v);
        words = λ v. SFits-int_wrap w32 (h.0 v);
        equal = value-same (λ v. int_wrap w32 (h.0 v)) h.0 f words ∙ h.1 ∙ sym (value-same (λ v. int_wrap w32 (h.0 v)) h.0 g words);
      }
    where
      fails : (t : Bool) → never_zero (difference f g) ≡ t → never_zero (difference f g) ≡ false
      fails true k = absurd (answer_no b (PowerTells (difference f g)) tells e ((never_zero-exact (difference f g)).0 k))
      fails false k = k

  either : (b ≡ true) ⊎ (b ≡ false)
  either = by_value b
    where
      by_value : (c : Bool) → (c ≡ true) ⊎ (c ≡ false)
      by_value true = inl refl
      by_value false = inr refl

  -- the answer is true exactly where no values make the forms equal
  pub never-exact : (b ≡ true) ↔ NeverEqual f g
  never-exact = (told, λ never. elim either [ inl e ↦ e | inr e ↦ absurd (let s = found e in never s.values s.equal) ])

  -- and false exactly where some words do
  pub sometimes-exact : (b ≡ false) ↔ SometimesEqual f g
  sometimes-exact = (found, λ s. elim either [ inl e ↦ absurd (told e s.values s.equal) | inr e ↦ e ])

  -- a word other than 0 is no multiple of 2^32
  no_multiple : (c : ℤ) → int_wrap w32 c ≡ c → c ≢ pos 0 → Divides 32 c → ⊥
  no_multiple c w ne m = ne (sym w ∙ multiple_zero c m ∙ wrap_zero)

  by_zero : IsNeverZero (difference f g) → PowerTells (difference f g)
  by_zero (inl h) = h
  by_zero (inr h) = record {
    power = 32;
    least = omega arith;
    most = omega arith;
    factors = subst (λ (ts : List Term). AllByRecursion (λ (t : Term). Divides 32 t.factor) ts) (sym h.0) tt;
    constant = no_multiple (difference f g).constant (wrap_same (f.constant +ℤ (negsuc 0 *ℤ g.constant))) h.1;
  }

  -- and true exactly where the difference says so
  pub never_zero_tells : (b ≡ true) ↔ IsNeverZero (difference f g)
  never_zero_tells = (λ e. inl (tells.0 e), λ h. tells.1 (by_zero h))

-- what never equal forms mean differs
pub never_equal-differ : (f g : Form) → NeverEqual f g → (σ : ℕ → ℤ) (a b : ℤ) → Means σ f a → Means σ g b → a ≢ b
never_equal-differ f g never σ a b p q e = never σ (sym (means_number σ f a p) ∙ ap (int_wrap w32) e ∙ means_number σ g b q)

-- ---- always

-- words are equal where their difference, as a word, is 0
no_word_difference : (a b : ℤ) → int_wrap w32 a ≡ a → int_wrap w32 b ≡ b → int_wrap w32 (a +ℤ (negsuc 0 *ℤ b)) ≡ pos 0 → a ≡ b
no_word_difference a b p q h = sym p ∙ no_difference a b (ap (int_wrap w32) (ap (λ (z : ℤ). a +ℤ z) (opposite b)) ∙ h ∙ sym wrap_zero) ∙ q
  where
    opposite : (b : ℤ) → neg_ℤ b ≡ negsuc 0 *ℤ b
    opposite b = omega (arith, ints)

-- and the difference of a word and itself is 0
word_difference : (a : ℤ) → int_wrap w32 (a +ℤ (negsuc 0 *ℤ a)) ≡ pos 0
word_difference a = ap (int_wrap w32) (none a) ∙ wrap_zero
  where
    none : (a : ℤ) → a +ℤ (negsuc 0 *ℤ a) ≡ pos 0
    none a = omega (arith, ints)

-- forms are one where their difference is always 0
pub zero-same : (f g : Form) → IsNormal f → IsNormal g → IsAlwaysZero (difference f g) → f ≡ g
zero-same f g p q h = same_form f g p q
    (λ x. no_word_difference (factor_of f.terms x) (factor_of g.terms x)
    (int_wrap_fits w32 (factor_of f.terms x) (factor-word x 0 f.terms p.rising p.factors)) (int_wrap_fits w32 (factor_of g.terms x) (factor-word x 0 g.terms q.rising q.factors))
    (sym (plus-factor f (negsuc 0) g x p) ∙ ap (λ (ts : List Term). factor_of ts x) h.0))
    (no_word_difference f.constant g.constant (int_wrap_fits w32 f.constant p.constant) (int_wrap_fits w32 g.constant q.constant) h.1)

-- and there alone
pub same-zero : (f g : Form) → IsNormal f → f ≡ g → IsAlwaysZero (difference f g)
same-zero f g p e = subst (λ (h : Form). IsAlwaysZero (difference f h)) e (ap (λ (h : Form). h.terms) zero, ap (λ (h : Form). h.constant) zero)
  where
    zero : difference f f ≡ constant_form (pos 0)
    zero = same_form (difference f f) (constant_form (pos 0)) (plus-normal f (negsuc 0) f p) (constant-normal (pos 0) (record { sfits = omega arith }))
        (λ x. plus-factor f (negsuc 0) f x p ∙ word_difference (factor_of f.terms x)) (word_difference f.constant)

-- where every variable is 0, a sum is 0
none-sum : (ts : List Term) → sum_of (λ v. pos 0) ts ≡ pos 0
none-sum [] = refl
none-sum (t ∷ ts) = (λ i. *ℤ-zero t.factor i +ℤ none-sum ts i) ∙ +ℤ_idl (pos 0)

-- forms that are always equal are one
always-same : (f g : Form) → IsNormal f → IsNormal g → AlwaysEqual f g → f ≡ g
always-same f g p q h = same_form f g p q factors constants
  where
    same_words : (a b : ℤ) → IsWord a → IsWord b → a ≈ b → a ≡ b
    same_words a b v w e = sym (int_wrap_fits w32 a v) ∙ e ∙ int_wrap_fits w32 b w

    constant_alone : (k : Form) → form_number (λ v. pos 0) k ≡ k.constant
    constant_alone k = ap (λ (z : ℤ). z +ℤ k.constant) (none-sum k.terms) ∙ +ℤ_idl k.constant

    constants : f.constant ≡ g.constant
    constants = same_words f.constant g.constant p.constant q.constant (ap (int_wrap w32) (sym (constant_alone f)) ∙ h (λ v. pos 0) ∙ ap (int_wrap w32) (constant_alone g))

    without : (a c : ℤ) → a ≡ (a +ℤ c) +ℤ neg_ℤ c
    without a c = omega (arith, ints)

    less_constant : (a b c : ℤ) → (a +ℤ c) ≈ (b +ℤ c) → a ≈ b
    less_constant a b c e = ap (int_wrap w32) (without a c) ∙ add_same (a +ℤ c) (b +ℤ c) (neg_ℤ c) (neg_ℤ c) e refl ∙ ap (int_wrap w32) (sym (without b c))

    factors : (x : ℕ) → factor_of f.terms x ≡ factor_of g.terms x
    factors x = same_words (factor_of f.terms x) (factor_of g.terms x) (factor-word x 0 f.terms p.rising p.factors) (factor-word x 0 g.terms q.rising q.factors)
        (less_constant (factor_of f.terms x) (factor_of g.terms x) f.constant
        (ap (λ (z : ℤ). int_wrap w32 (z +ℤ f.constant)) (factor-sum x f.terms) ∙ h (only x) ∙ (λ i. int_wrap w32 (sym (factor-sum x g.terms) i +ℤ sym constants i))))

-- an answer that is true exactly where the difference is always 0 is true exactly where all values make the forms equal
pub always-exact : (b : Bool) (f g : Form) → IsNormal f → IsNormal g → (b ≡ true) ↔ IsAlwaysZero (difference f g) → (b ≡ true) ↔ AlwaysEqual f g
always-exact b f g p q h = (λ e σ. ap (form_value σ) (zero-same f g p q (h.0 e)), λ always. h.1 (same-zero f g p (always-same f g p q always)))

-- and exactly where they are one
pub same-exact : (b : Bool) (f g : Form) → IsNormal f → IsNormal g → (b ≡ true) ↔ IsAlwaysZero (difference f g) → (b ≡ true) ↔ (f ≡ g)
same-exact b f g p q h = (λ e. zero-same f g p q (h.0 e), λ e. h.1 (same-zero f g p e))
