-- Forms with what their variables stand for in the variables' places.
use Rattle.std.proofs.Common.{◌≡◌, ℕ, zero, suc, ◌+◌, ◌≤◌, List, [], ◌∷◌, length, refl, sym, ◌∙◌, ap, arith}
use Rattle.std.specs.Prelude.{ℤ, pos, negsuc, ◌+ℤ◌, ◌*ℤ◌, Bool, true, false, if◌then◌else◌, nat_eq}
use Rattle.std.specs.Int.{w32, int_wrap}
use Rattle.std.proofs.lemmas.Int.{ints, int_wrap_fits}
use lib.IntN.{+ℤ_idl, +ℤ_idr, *ℤ_comm}
use Rattle.pc_linear.specs.declared.term.Term.{Term}
use Rattle.pc_linear.specs.Form.{Form, IsNormal, factor_of}
use Rattle.pc_linear.specs.Combine.{plus, constant_form, variable_form, times_form}
use Rattle.pc_linear.proofs.Words.{distribute, distribute_left, times_times, one_times, wrap_same, add_same, times_same}
use Rattle.pc_linear.proofs.Normal.{plus-normal, constant-normal, factor-word, plus-factor, same_form}
use Rattle.pc_window.specs.Rebasing.{rewritten_by, rewritten}
use Rattle.pc_rebase.specs.models.Standing.{and_terms, written_by}
use Rattle.pc_rebase.proofs.Replacing.{zero_normal, add_times-length}

-- ---- a variable that is taken out of a form

nothing_times : (z : ℤ) → pos zero *ℤ z ≡ pos zero
nothing_times z = omega (arith, ints)

module _ (x : ℕ) (d : Form) where
  rewritten_by-normal : (k : ℤ) (f : Form) → IsNormal f → IsNormal (rewritten_by k d f)
  rewritten_by-normal (pos zero) f h = h
  rewritten_by-normal (pos (suc n)) f h = plus-normal f (pos (suc n)) d h
  rewritten_by-normal (negsuc n) f h = plus-normal f (negsuc n) d h

  pub rewritten-normal : (f : Form) → IsNormal f → IsNormal (rewritten x d f)
  rewritten-normal f h = rewritten_by-normal (int_wrap w32 (factor_of f.terms x)) f h

  own_word : (f : Form) (z : ℕ) → IsNormal f → int_wrap w32 (factor_of f.terms z) ≡ factor_of f.terms z
  own_word f z h = int_wrap_fits w32 (factor_of f.terms z) (factor-word z 0 f.terms h.rising h.factors)

  nothing_more : (a b : ℤ) → a ≡ a +ℤ (pos zero *ℤ b)
  nothing_more a b = sym (ap (λ (z : ℤ). a +ℤ z) (nothing_times b) ∙ +ℤ_idr a)

  rewritten_by-factor : (k : ℤ) (f : Form) (z : ℕ) → IsNormal f → factor_of (rewritten_by k d f).terms z ≡ int_wrap w32 (factor_of f.terms z +ℤ (k *ℤ factor_of d.terms z))
  rewritten_by-factor (pos zero) f z h = sym (own_word f z h) ∙ ap (int_wrap w32) (nothing_more (factor_of f.terms z) (factor_of d.terms z))
  rewritten_by-factor (pos (suc n)) f z h = plus-factor f (pos (suc n)) d z h
  rewritten_by-factor (negsuc n) f z h = plus-factor f (negsuc n) d z h

  pub rewritten-factor : (f : Form) (z : ℕ) → IsNormal f → factor_of (rewritten x d f).terms z ≡ int_wrap w32 (factor_of f.terms z +ℤ (factor_of f.terms x *ℤ factor_of d.terms z))
  rewritten-factor f z h =
      rewritten_by-factor (int_wrap w32 (factor_of f.terms x)) f z h ∙ ap (λ (k : ℤ). int_wrap w32 (factor_of f.terms z +ℤ (k *ℤ factor_of d.terms z))) (own_word f x h)

  rewritten_by-constant : (k : ℤ) (f : Form) → IsNormal f → (rewritten_by k d f).constant ≡ int_wrap w32 (f.constant +ℤ (k *ℤ d.constant))
  rewritten_by-constant (pos zero) f h = sym (int_wrap_fits w32 f.constant h.constant) ∙ ap (int_wrap w32) (nothing_more f.constant d.constant)
  rewritten_by-constant (pos (suc n)) f h = refl
  rewritten_by-constant (negsuc n) f h = refl

  pub rewritten-constant : (f : Form) → IsNormal f → (rewritten x d f).constant ≡ int_wrap w32 (f.constant +ℤ (factor_of f.terms x *ℤ d.constant))
  rewritten-constant f h =
      rewritten_by-constant (int_wrap w32 (factor_of f.terms x)) f h ∙ ap (λ (k : ℤ). int_wrap w32 (f.constant +ℤ (k *ℤ d.constant))) (own_word f x h)

  -- where it has no factor, nothing is taken out
  pub rewritten-same : (f : Form) → factor_of f.terms x ≡ pos 0 → rewritten x d f ≡ f
  rewritten-same f none = ap (λ (z : ℤ). rewritten_by (int_wrap w32 z) d f) none ∙ by (int_wrap w32 (pos 0)) wrap_none
    where
      wrap_none : int_wrap w32 (pos 0) ≡ pos 0
      wrap_none = int_wrap_fits w32 (pos 0) (record { sfits = omega arith })

      by : (k : ℤ) → k ≡ pos 0 → rewritten_by k d f ≡ f
      by k is = ap (λ (z : ℤ). rewritten_by z d f) is

-- ---- taking it out of a sum is taking it out of the parts

-- a sum of one number and so many times another, in two steps
two_steps : (a k s : ℤ) → int_wrap w32 (a +ℤ (pos 1 *ℤ int_wrap w32 (pos 0 +ℤ (k *ℤ s)))) ≡ int_wrap w32 (a +ℤ (k *ℤ s))
two_steps a k s =
    ap (λ (z : ℤ). int_wrap w32 (a +ℤ z)) (one_times (int_wrap w32 (pos 0 +ℤ (k *ℤ s))))
    ∙ add_same a a (int_wrap w32 (pos 0 +ℤ (k *ℤ s))) (k *ℤ s) refl (wrap_same (pos 0 +ℤ (k *ℤ s)) ∙ ap (int_wrap w32) (+ℤ_idl (k *ℤ s)))

numbers_apart : (a b s r k d : ℤ)
    → int_wrap w32 (int_wrap w32 (a +ℤ (k *ℤ s)) +ℤ (int_wrap w32 (b +ℤ (k *ℤ r)) *ℤ d)) ≡ int_wrap w32 (int_wrap w32 (a +ℤ (b *ℤ d)) +ℤ (k *ℤ int_wrap w32 (s +ℤ (r *ℤ d))))
numbers_apart a b s r k d =
    add_same (int_wrap w32 (a +ℤ (k *ℤ s))) (a +ℤ (k *ℤ s)) (int_wrap w32 (b +ℤ (k *ℤ r)) *ℤ d) ((b +ℤ (k *ℤ r)) *ℤ d) (wrap_same (a +ℤ (k *ℤ s)))
    (times_same (int_wrap w32 (b +ℤ (k *ℤ r))) (b +ℤ (k *ℤ r)) d d (wrap_same (b +ℤ (k *ℤ r))) refl)
    ∙ ap (int_wrap w32) middle
    ∙ sym (add_same (int_wrap w32 (a +ℤ (b *ℤ d))) (a +ℤ (b *ℤ d)) (k *ℤ int_wrap w32 (s +ℤ (r *ℤ d))) (k *ℤ (s +ℤ (r *ℤ d))) (wrap_same (a +ℤ (b *ℤ d)))
    (times_same k k (int_wrap w32 (s +ℤ (r *ℤ d))) (s +ℤ (r *ℤ d)) refl (wrap_same (s +ℤ (r *ℤ d)))))
  where
    regroup : (a p q t : ℤ) → (a +ℤ p) +ℤ (q +ℤ t) ≡ (a +ℤ q) +ℤ (p +ℤ t)
    regroup a p q t = omega (arith, ints)

    middle : (a +ℤ (k *ℤ s)) +ℤ ((b +ℤ (k *ℤ r)) *ℤ d) ≡ (a +ℤ (b *ℤ d)) +ℤ (k *ℤ (s +ℤ (r *ℤ d)))
    middle =
        ap (λ (z : ℤ). (a +ℤ (k *ℤ s)) +ℤ z) (distribute b (k *ℤ r) d ∙ ap (λ (z : ℤ). (b *ℤ d) +ℤ z) (times_times k r d))
        ∙ regroup a (k *ℤ s) (b *ℤ d) (k *ℤ (r *ℤ d))
        ∙ ap (λ (z : ℤ). (a +ℤ (b *ℤ d)) +ℤ z) (sym (distribute_left s (r *ℤ d) k))

-- a sum and so many times a form more
abbrev and_times : Form → ℤ → Form → Form
and_times sum k s = plus sum (pos 1) (times_form s k)

pub and_times-normal : (sum : Form) (k : ℤ) (s : Form) → IsNormal sum → IsNormal (and_times sum k s)
and_times-normal sum k s h = plus-normal sum (pos 1) (times_form s k) h

pub and_times-factor : (sum : Form) (k : ℤ) (s : Form) (z : ℕ) → IsNormal sum
    → factor_of (and_times sum k s).terms z ≡ int_wrap w32 (factor_of sum.terms z +ℤ (k *ℤ factor_of s.terms z))
and_times-factor sum k s z h =
    plus-factor sum (pos 1) (times_form s k) z h
    ∙ ap (λ (y : ℤ). int_wrap w32 (factor_of sum.terms z +ℤ (pos 1 *ℤ y))) (plus-factor (constant_form (pos 0)) k s z zero_normal)
    ∙ two_steps (factor_of sum.terms z) k (factor_of s.terms z)

module _ (x : ℕ) (d : Form) where
  linear : (sum : Form) (k : ℤ) (s : Form) → IsNormal sum → IsNormal s → rewritten x d (and_times sum k s) ≡ and_times (rewritten x d sum) k (rewritten x d s)
  linear sum k s h n =
      same_form (rewritten x d (and_times sum k s)) (and_times (rewritten x d sum) k (rewritten x d s))
      (rewritten-normal x d (and_times sum k s) (and_times-normal sum k s h)) (and_times-normal (rewritten x d sum) k (rewritten x d s) (rewritten-normal x d sum h))
      (λ z.
      rewritten-factor x d (and_times sum k s) z (and_times-normal sum k s h)
      ∙ (λ i. int_wrap w32 (and_times-factor sum k s z h i +ℤ (and_times-factor sum k s x h i *ℤ factor_of d.terms z)))
      ∙ numbers_apart (factor_of sum.terms z) (factor_of sum.terms x) (factor_of s.terms z) (factor_of s.terms x) k (factor_of d.terms z)
      ∙ sym (and_times-factor (rewritten x d sum) k (rewritten x d s) z (rewritten-normal x d sum h)
      ∙ (λ i. int_wrap w32 (rewritten-factor x d sum z h i +ℤ (k *ℤ rewritten-factor x d s z n i)))))
      (rewritten-constant x d (and_times sum k s) (and_times-normal sum k s h)
      ∙ (λ i. int_wrap w32 (two_steps sum.constant k s.constant i +ℤ (and_times-factor sum k s x h i *ℤ d.constant)))
      ∙ numbers_apart sum.constant (factor_of sum.terms x) s.constant (factor_of s.terms x) k d.constant
      ∙ sym (two_steps (rewritten x d sum).constant k (rewritten x d s).constant
      ∙ (λ i. int_wrap w32 (rewritten-constant x d sum h i +ℤ (k *ℤ rewritten-constant x d s n i)))))

  terms_rewritten : (stands : ℕ → Form) → ((v : ℕ) → IsNormal (stands v)) → (ts : List Term) (sum : Form) → IsNormal sum
      → rewritten x d (and_terms stands ts sum) ≡ and_terms (λ v. rewritten x d (stands v)) ts (rewritten x d sum)
  terms_rewritten stands normal [] sum h = refl
  terms_rewritten stands normal (t ∷ ts) sum h =
      terms_rewritten stands normal ts (and_times sum t.factor (stands t.variable)) (and_times-normal sum t.factor (stands t.variable) h)
      ∙ ap (and_terms (λ v. rewritten x d (stands v)) ts) (linear sum t.factor (stands t.variable) h (normal t.variable))

  -- a form with a variable taken out of what its variables stand for
  pub form_rewritten : (stands : ℕ → Form) → ((v : ℕ) → IsNormal (stands v)) → (f : Form) → IsNormal f
      → rewritten x d (written_by stands f) ≡ written_by (λ v. rewritten x d (stands v)) f
  form_rewritten stands normal f h =
      terms_rewritten stands normal f.terms (constant_form f.constant) (constant-normal f.constant h.constant)
      ∙ ap (and_terms (λ v. rewritten x d (stands v)) f.terms) (rewritten-same x d (constant_form f.constant) refl)

-- ---- lengths, factors that are none, and variables that stand for themselves

pub and_times-length : (sum : Form) (k : ℤ) (s : Form) → length (and_times sum k s).terms ≤ length s.terms + length sum.terms
and_times-length sum k s =
    let one = add_times-length k s.terms [] in
    let more = add_times-length (pos 1) (times_form s k).terms sum.terms in
    omega arith

module _ (stands : ℕ → Form) where
  terms_normal : (ts : List Term) (sum : Form) → IsNormal sum → IsNormal (and_terms stands ts sum)
  terms_normal [] sum h = h
  terms_normal (t ∷ ts) sum h = terms_normal ts (and_times sum t.factor (stands t.variable)) (and_times-normal sum t.factor (stands t.variable) h)

  pub written-normal : (f : Form) → IsNormal f → IsNormal (written_by stands f)
  written-normal f h = terms_normal f.terms (constant_form f.constant) (constant-normal f.constant h.constant)

  terms_few : ((v : ℕ) → length (stands v).terms ≤ 1) → (ts : List Term) (sum : Form) → length (and_terms stands ts sum).terms ≤ length ts + length sum.terms
  terms_few one [] sum = omega arith
  terms_few one (t ∷ ts) sum =
      let le = terms_few one ts (and_times sum t.factor (stands t.variable)) in
      let more = and_times-length sum t.factor (stands t.variable) in
      let few = one t.variable in
      omega arith

  -- there are no more terms than before, where each variable stands for one
  pub written-few : ((v : ℕ) → length (stands v).terms ≤ 1) → (f : Form) → length (written_by stands f).terms ≤ length f.terms
  written-few one f = let le = terms_few one f.terms (constant_form f.constant) in omega arith

  module _ (x : ℕ) (none : (v : ℕ) → factor_of (stands v).terms x ≡ pos 0) where
    terms_without : (ts : List Term) (sum : Form) → IsNormal sum → factor_of sum.terms x ≡ pos 0 → factor_of (and_terms stands ts sum).terms x ≡ pos 0
    terms_without [] sum h is = is
    terms_without (t ∷ ts) sum h is =
        terms_without ts (and_times sum t.factor (stands t.variable)) (and_times-normal sum t.factor (stands t.variable) h)
        (and_times-factor sum t.factor (stands t.variable) x h ∙ (λ i. int_wrap w32 (is i +ℤ (t.factor *ℤ none t.variable i))) ∙ wrapped t.factor)
      where
        wrapped : (k : ℤ) → int_wrap w32 (pos 0 +ℤ (k *ℤ pos 0)) ≡ pos 0
        wrapped k = ap (λ (z : ℤ). int_wrap w32 (pos 0 +ℤ z)) (*ℤ_comm k (pos 0) ∙ nothing_times k) ∙ int_wrap_fits w32 (pos 0) (record { sfits = omega arith })

    -- a variable that stands in nothing is gone
    pub written-without : (f : Form) → IsNormal f → factor_of (written_by stands f).terms x ≡ pos 0
    written-without f h = terms_without f.terms (constant_form f.constant) (constant-normal f.constant h.constant) refl

own_factor : (v z : ℕ) (k : ℤ) (ts : List Term) → k *ℤ factor_of (variable_form v).terms z ≡ (if nat_eq z v then k else pos 0)
own_factor v z k ts = by (nat_eq z v)
  where
    by : (b : Bool) → k *ℤ ((if b then pos 1 else pos 0) +ℤ pos 0) ≡ (if b then k else pos 0)
    by true = *ℤ_comm k (pos 1) ∙ one_times k
    by false = *ℤ_comm k (pos 0) ∙ nothing_times k

terms_themselves : (ts : List Term) (sum : Form) (z : ℕ) → IsNormal sum → factor_of (and_terms variable_form ts sum).terms z ≡ int_wrap w32 (factor_of sum.terms z +ℤ factor_of ts z)
terms_themselves [] sum z h =
    sym (int_wrap_fits w32 (factor_of sum.terms z) (factor-word z 0 sum.terms h.rising h.factors)) ∙ ap (int_wrap w32) (sym (+ℤ_idr (factor_of sum.terms z)))
terms_themselves (t ∷ ts) sum z h =
    let more = (if nat_eq z t.variable then t.factor else pos 0) in
    terms_themselves ts (and_times sum t.factor (variable_form t.variable)) z (and_times-normal sum t.factor (variable_form t.variable) h)
    ∙ ap (λ (y : ℤ). int_wrap w32 (y +ℤ factor_of ts z))
    (and_times-factor sum t.factor (variable_form t.variable) z h ∙ ap (λ (y : ℤ). int_wrap w32 (factor_of sum.terms z +ℤ y)) (own_factor t.variable z t.factor ts))
    ∙ add_same (int_wrap w32 (factor_of sum.terms z +ℤ more)) (factor_of sum.terms z +ℤ more) (factor_of ts z) (factor_of ts z) (wrap_same (factor_of sum.terms z +ℤ more)) refl
    ∙ ap (int_wrap w32) (regroup (factor_of sum.terms z) more (factor_of ts z))
  where
    regroup : (a b c : ℤ) → (a +ℤ b) +ℤ c ≡ a +ℤ (b +ℤ c)
    regroup a b c = omega (arith, ints)

constants_themselves : (ts : List Term) (sum : Form) → IsNormal sum → (and_terms variable_form ts sum).constant ≡ sum.constant
constants_themselves [] sum h = refl
constants_themselves (t ∷ ts) sum h =
    constants_themselves ts (and_times sum t.factor (variable_form t.variable)) (and_times-normal sum t.factor (variable_form t.variable) h)
    ∙ two_steps sum.constant t.factor (pos 0)
    ∙ ap (λ (z : ℤ). int_wrap w32 (sum.constant +ℤ z)) (*ℤ_comm t.factor (pos 0) ∙ nothing_times t.factor)
    ∙ ap (int_wrap w32) (+ℤ_idr sum.constant) ∙ int_wrap_fits w32 sum.constant h.constant

-- where each variable stands for itself, a form stays as it is
pub written-itself : (f : Form) → IsNormal f → written_by variable_form f ≡ f
written-itself f h =
    let base = constant-normal f.constant h.constant in
    same_form (written_by variable_form f) f (written-normal variable_form f h) h
    (λ z.
    terms_themselves f.terms (constant_form f.constant) z base
    ∙ ap (int_wrap w32) (+ℤ_idl (factor_of f.terms z))
    ∙ int_wrap_fits w32 (factor_of f.terms z) (factor-word z 0 f.terms h.rising h.factors))
    (constants_themselves f.terms (constant_form f.constant) base)
