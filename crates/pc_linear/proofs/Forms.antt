-- What linear forms mean: sums of terms, and the form of a result.
use Rattle.std.proofs.Common.{◌≡◌, ℕ, zero, suc, List, [], ◌∷◌, length, Option, Some, None, refl, sym, ◌∙◌, ap, subst, arith}
use Rattle.std.specs.Prelude.{ℤ, pos, negsuc, ◌+ℤ◌, ◌-ℤ◌, ◌*ℤ◌, neg_ℤ, Bool, true, false, if◌then◌else◌, nat_eq, nat_lt, IfSome}
use Rattle.std.specs.Int.{w32, int_wrap}
use Rattle.std.proofs.lemmas.Int.{ints}
use lib.IntN.{+ℤ_idl, +ℤ_idr, +ℤ_assoc, zero-*ℤ, *ℤ-zero, *ℤ_comm}
use Rattle.pc_word.specs.declared.item.OpCode.{OpCode}
use Rattle.pc_word.specs.declared.item.OpCode.TheVariants.{Add, Sub, Mul, Shl}
use Rattle.pc_word.specs.Word.{word_apply, word_add, word_sub, word_mul, word_shl}
use Rattle.pc_linear.specs.declared.term.Term.{Term}
use Rattle.pc_linear.specs.Form.{Form, most_terms, sum_of, ◌≈◌, form_number, says, Means}
use Rattle.pc_linear.specs.Combine.{prepended, add_term, add_times, plus, difference, constant_form, variable_form, times_form, fitting, constant_by, constant_of, shift_factor, combine_by, combine}
use Rattle.pc_linear.proofs.Words.{distribute, distribute_left, times_times, one_times, minus_one, exchange, wrap_same, add_same, times_same}

-- ---- sums of terms

prepended-sum : (σ : ℕ → ℤ) (v : ℕ) (factor : ℤ) (ts : List Term) → sum_of σ (prepended v factor ts) ≡ (factor *ℤ σ v) +ℤ sum_of σ ts
prepended-sum σ v (pos zero) ts = sym (ap (λ (z : ℤ). z +ℤ sum_of σ ts) (zero-*ℤ (σ v)) ∙ +ℤ_idl (sum_of σ ts))
prepended-sum σ v (pos (suc n)) ts = refl
prepended-sum σ v (negsuc n) ts = refl

-- a wrapped factor in a sum
prepended_wrapped : (σ : ℕ → ℤ) (v : ℕ) (factor : ℤ) (ts : List Term) → sum_of σ (prepended v (int_wrap w32 factor) ts) ≈ ((factor *ℤ σ v) +ℤ sum_of σ ts)
prepended_wrapped σ v factor ts =
    ap (int_wrap w32) (prepended-sum σ v (int_wrap w32 factor) ts)
    ∙ add_same (int_wrap w32 factor *ℤ σ v) (factor *ℤ σ v) (sum_of σ ts) (sum_of σ ts) (times_same (int_wrap w32 factor) factor (σ v) (σ v) (wrap_same factor) refl) refl

pub add_term-sum : (σ : ℕ → ℤ) (v : ℕ) (factor : ℤ) (ts : List Term) → sum_of σ (add_term v factor ts) ≈ ((factor *ℤ σ v) +ℤ sum_of σ ts)
add_term-sum σ v factor [] = prepended_wrapped σ v factor []
add_term-sum σ v factor (t ∷ ts) = by_order (nat_lt v t.variable) (nat_eq v t.variable) refl (add_term-sum σ v factor ts)
  where
    same : nat_eq v t.variable ≡ true → v ≡ t.variable
    same e = grind arith

    by_order : (less equal : Bool) → nat_eq v t.variable ≡ equal → sum_of σ (add_term v factor ts) ≈ ((factor *ℤ σ v) +ℤ sum_of σ ts)
        → sum_of σ (if less then prepended v (int_wrap w32 factor) (t ∷ ts) else if equal then prepended v (int_wrap w32 (factor +ℤ t.factor)) ts else t ∷ add_term v factor ts)
        ≈ ((factor *ℤ σ v) +ℤ ((t.factor *ℤ σ t.variable) +ℤ sum_of σ ts))
    by_order true equal e h = prepended_wrapped σ v factor (t ∷ ts)
    by_order false true e h =
        prepended_wrapped σ v (factor +ℤ t.factor) ts
        ∙ ap (int_wrap w32) (
        ap (λ (z : ℤ). z +ℤ sum_of σ ts) (distribute factor t.factor (σ v))
        ∙ +ℤ_assoc (factor *ℤ σ v) (t.factor *ℤ σ v) (sum_of σ ts)
        ∙ ap (λ (u : ℕ). (factor *ℤ σ v) +ℤ ((t.factor *ℤ σ u) +ℤ sum_of σ ts)) (same e))
    by_order false false e h =
        add_same (t.factor *ℤ σ t.variable) (t.factor *ℤ σ t.variable) (sum_of σ (add_term v factor ts)) ((factor *ℤ σ v) +ℤ sum_of σ ts) refl h
        ∙ ap (int_wrap w32) (exchange (t.factor *ℤ σ t.variable) (factor *ℤ σ v) (sum_of σ ts))

pub add_times-sum : (σ : ℕ → ℤ) (n : ℤ) (ts us : List Term) → sum_of σ (add_times n ts us) ≈ ((n *ℤ sum_of σ ts) +ℤ sum_of σ us)
add_times-sum σ n [] us = ap (int_wrap w32) (sym (ap (λ (z : ℤ). z +ℤ sum_of σ us) (*ℤ-zero n) ∙ +ℤ_idl (sum_of σ us)))
add_times-sum σ n (t ∷ ts) us =
    let more = add_term t.variable (n *ℤ t.factor) us in
    add_times-sum σ n ts more
    ∙ add_same (n *ℤ sum_of σ ts) (n *ℤ sum_of σ ts) (sum_of σ more) (((n *ℤ t.factor) *ℤ σ t.variable) +ℤ sum_of σ us) refl (add_term-sum σ t.variable (n *ℤ t.factor) us)
    ∙ ap (int_wrap w32) (
    exchange (n *ℤ sum_of σ ts) ((n *ℤ t.factor) *ℤ σ t.variable) (sum_of σ us)
    ∙ sym (+ℤ_assoc ((n *ℤ t.factor) *ℤ σ t.variable) (n *ℤ sum_of σ ts) (sum_of σ us))
    ∙ ap (λ (z : ℤ). z +ℤ sum_of σ us) (ap (λ (z : ℤ). z +ℤ (n *ℤ sum_of σ ts)) (times_times n t.factor (σ t.variable))
    ∙ sym (distribute_left (t.factor *ℤ σ t.variable) (sum_of σ ts) n)))

-- the number of a sum of forms
pub plus-number : (σ : ℕ → ℤ) (f : Form) (n : ℤ) (g : Form) → form_number σ (plus f n g) ≈ (form_number σ f +ℤ (n *ℤ form_number σ g))
plus-number σ f n g =
    add_same (sum_of σ (add_times n g.terms f.terms)) ((n *ℤ sum_of σ g.terms) +ℤ sum_of σ f.terms) (int_wrap w32 (f.constant +ℤ (n *ℤ g.constant))) (f.constant +ℤ (n *ℤ g.constant))
    (add_times-sum σ n g.terms f.terms) (wrap_same (f.constant +ℤ (n *ℤ g.constant)))
    ∙ ap (int_wrap w32) (regroup (n *ℤ sum_of σ g.terms) (sum_of σ f.terms) f.constant (n *ℤ g.constant)
    ∙ ap (λ (z : ℤ). (sum_of σ f.terms +ℤ f.constant) +ℤ z) (sym (distribute_left (sum_of σ g.terms) g.constant n)))
  where
    regroup : (a b c d : ℤ) → (a +ℤ b) +ℤ (c +ℤ d) ≡ (b +ℤ c) +ℤ (a +ℤ d)
    regroup a b c d = omega (arith, ints)

-- ---- meaning

-- what a value means is its number, as words
pub means_number : (σ : ℕ → ℤ) (f : Form) (value : ℤ) → Means σ f value → value ≈ form_number σ f
means_number σ f value h = by_terms f.terms h
  where
    by_terms : (ts : List Term) → says σ ts f.constant value → value ≈ (sum_of σ ts +ℤ f.constant)
    by_terms [] h = ap (int_wrap w32) (h ∙ sym (+ℤ_idl f.constant))
    by_terms (t ∷ ts) h = h

-- a word with the number of a form whose constant is a word
pub word_means : (σ : ℕ → ℤ) (f : Form) (z : ℤ) → z ≈ form_number σ f → int_wrap w32 f.constant ≡ f.constant → Means σ f (int_wrap w32 z)
word_means σ f z h constant = by_terms f.terms h
  where
    by_terms : (ts : List Term) → z ≈ (sum_of σ ts +ℤ f.constant) → says σ ts f.constant (int_wrap w32 z)
    by_terms [] h = h ∙ ap (int_wrap w32) (+ℤ_idl f.constant) ∙ constant
    by_terms (t ∷ ts) h = wrap_same z ∙ h

-- a variable alone
pub variable_means : (σ : ℕ → ℤ) (v : ℕ) (value : ℤ) → σ v ≡ value → Means σ (variable_form v) value
variable_means σ v value h = ap (int_wrap w32) (sym (+ℤ_idr ((pos 1 *ℤ σ v) +ℤ pos 0) ∙ +ℤ_idr (pos 1 *ℤ σ v) ∙ one_times (σ v) ∙ h))

-- a sum of forms means the word of the sum
plus_means : (σ : ℕ → ℤ) (f : Form) (n : ℤ) (g : Form) (z : ℤ) → z ≈ (form_number σ f +ℤ (n *ℤ form_number σ g)) → Means σ (plus f n g) (int_wrap w32 z)
plus_means σ f n g z h = word_means σ (plus f n g) z (h ∙ sym (plus-number σ f n g)) (wrap_same (f.constant +ℤ (n *ℤ g.constant)))

-- what holds of a sum holds of it where it fits
fitting_if : (P : Form → Type 0) (f : Form) → P f → IfSome (fitting f) P
fitting_if P f h = by_length (nat_lt most_terms (length f.terms))
  where
    by_length : (b : Bool) → IfSome (if b then None else Some f) P
    by_length true = tt
    by_length false = h

module _ (σ : ℕ → ℤ) (f g : Form) (a b : ℤ) (p : Means σ f a) (q : Means σ g b) where
  add_means : Means σ (plus f (pos 1) g) (word_add a b)
  unfolding word_add
  add_means = plus_means σ f (pos 1) g (a +ℤ b)
      (add_same a (form_number σ f) b (pos 1 *ℤ form_number σ g) (means_number σ f a p) (means_number σ g b q ∙ ap (int_wrap w32) (sym (one_times (form_number σ g)))))

  sub_means : Means σ (plus f (negsuc 0) g) (word_sub a b)
  unfolding word_sub
  sub_means = plus_means σ f (negsuc 0) g (a -ℤ b)
      (add_same a (form_number σ f) (neg_ℤ b) (negsuc 0 *ℤ form_number σ g) (means_number σ f a p)
      (ap (int_wrap w32) (sym (minus_one b)) ∙ times_same (negsuc 0) (negsuc 0) b (form_number σ g) refl (means_number σ g b q)))

  times_means : (n : ℤ) → Means σ (times_form f n) (int_wrap w32 (a *ℤ n))
  times_means n = plus_means σ (constant_form (pos 0)) n f (a *ℤ n)
      (times_same a (form_number σ f) n n (means_number σ f a p) refl ∙ ap (int_wrap w32) (*ℤ_comm (form_number σ f) n ∙ sym (+ℤ_idl (n *ℤ form_number σ f))))

  shl_means : Means σ (times_form f (shift_factor b)) (word_shl a b)
  unfolding word_shl
  shl_means = times_means (shift_factor b)

-- a form without terms means its constant
means_constant : (σ : ℕ → ℤ) (f : Form) (number c : ℤ) → Means σ f number → constant_of f ≡ Some c → number ≡ c
means_constant σ f number c p e = by_terms f.terms p e
  where
    by_terms : (ts : List Term) → says σ ts f.constant number → constant_by ts f.constant ≡ Some c → number ≡ c
    by_terms [] p e = cc
    by_terms (t ∷ ts) p e = absurd (cc)

-- the form that is combined means the operator's result
pub combine_means : (σ : ℕ → ℤ) (op : OpCode) (f g : Form) (a b : ℤ) → Means σ f a → Means σ g b → IfSome (combine op f g) (λ h. Means σ h (word_apply op a b))
unfolding word_mul
combine_means σ op f g a b p q = by_sides op (constant_of f) (constant_of g) refl refl
  where
    sum : IfSome (fitting (plus f (pos 1) g)) (λ h. Means σ h (word_add a b))
    sum = fitting_if (λ h. Means σ h (word_add a b)) (plus f (pos 1) g) (add_means σ f g a b p q)

    less : IfSome (fitting (difference f g)) (λ h. Means σ h (word_sub a b))
    less = fitting_if (λ h. Means σ h (word_sub a b)) (difference f g) (sub_means σ f g a b p q)

    times_right : (n : ℤ) → b ≡ n → IfSome (fitting (times_form f n)) (λ h. Means σ h (word_mul a b))
    times_right n e = fitting_if (λ h. Means σ h (word_mul a b)) (times_form f n)
        (subst (λ (z : ℤ). Means σ (times_form f n) (int_wrap w32 (a *ℤ z))) (sym e) (times_means σ f g a b p q n))

    times_left : (n : ℤ) → a ≡ n → IfSome (fitting (times_form g n)) (λ h. Means σ h (word_mul a b))
    times_left n e = fitting_if (λ h. Means σ h (word_mul a b)) (times_form g n)
        (subst (λ (z : ℤ). Means σ (times_form g n) (int_wrap w32 z)) (ap (λ (y : ℤ). b *ℤ y) (sym e) ∙ *ℤ_comm b a) (times_means σ g f b a q p n))

    shift : (n : ℤ) → b ≡ n → IfSome (fitting (times_form f (shift_factor n))) (λ h. Means σ h (word_shl a b))
    shift n e = fitting_if (λ h. Means σ h (word_shl a b)) (times_form f (shift_factor n))
        (subst (λ (z : ℤ). Means σ (times_form f (shift_factor z)) (word_shl a b)) e (shl_means σ f g a b p q))

    by_sides : (o : OpCode) (x y : Option ℤ) → constant_of f ≡ x → constant_of g ≡ y → IfSome (combine_by o x y f g) (λ h. Means σ h (word_apply o a b))
    by_sides o (Some c) (Some d) e k = λ i. word_apply o (means_constant σ f a c p e i) (means_constant σ g b d q k i)
    by_sides Add None y e k = sum
    by_sides Add (Some c) None e k = sum
    by_sides Sub None y e k = less
    by_sides Sub (Some c) None e k = less
    by_sides Mul None (Some d) e k = times_right d (means_constant σ g b d q k)
    by_sides Mul (Some c) None e k = times_left c (means_constant σ f a c p e)
    by_sides Shl None (Some d) e k = shift d (means_constant σ g b d q k)
    by_sides _ x y e k = tt

-- whatever a sum of two forms keeps, and a sum that fits then has, a combined form has
pub combine_keeps : (P Q : Form → Type 0) → P (constant_form (pos 0)) → ((f : Form) (n : ℤ) (g : Form) → P f → P g → P (plus f n g)) → ((h : Form) → P h → IfSome (fitting h) Q)
    → (op : OpCode) (f g : Form) → P f → P g → Q (constant_form (word_apply op f.constant g.constant)) → IfSome (combine op f g) Q
combine_keeps P Q zero_kept sums fits op f g p q constant = by_sides op (constant_of f) (constant_of g) refl refl constant
  where
    times_keeps : (n : ℤ) (h : Form) → P h → IfSome (fitting (times_form h n)) Q
    times_keeps n h r = fits (times_form h n) (sums (constant_form (pos 0)) n h zero_kept r)

    its_constant : (h : Form) (c : ℤ) → constant_of h ≡ Some c → h.constant ≡ c
    its_constant h c e = by_terms h.terms e
      where
        by_terms : (ts : List Term) → constant_by ts h.constant ≡ Some c → h.constant ≡ c
        by_terms [] e = cc
        by_terms (t ∷ ts) e = absurd (cc)

    by_sides : (o : OpCode) (x y : Option ℤ) → constant_of f ≡ x → constant_of g ≡ y → Q (constant_form (word_apply o f.constant g.constant)) → IfSome (combine_by o x y f g) Q
    by_sides o (Some c) (Some d) e k h = subst (λ (z : ℤ). Q (constant_form z)) (λ i. word_apply o (its_constant f c e i) (its_constant g d k i)) h
    by_sides Add None y e k h = fits (plus f (pos 1) g) (sums f (pos 1) g p q)
    by_sides Add (Some c) None e k h = fits (plus f (pos 1) g) (sums f (pos 1) g p q)
    by_sides Sub None y e k h = fits (difference f g) (sums f (negsuc 0) g p q)
    by_sides Sub (Some c) None e k h = fits (difference f g) (sums f (negsuc 0) g p q)
    by_sides Mul None (Some d) e k h = times_keeps d f p
    by_sides Mul (Some c) None e k h = times_keeps c g q
    by_sides Shl None (Some d) e k h = times_keeps (shift_factor d) f p
    by_sides _ x y e k h = tt
