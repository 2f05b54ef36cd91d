-- A variable that is taken out of a form, step by step.
use Rattle.std.proofs.Common.{◌≡◌, ◌≢◌, ℕ, zero, suc, ◌+◌, ◌<◌, ◌≤◌, List, [], ◌∷◌, Option, Some, None, length, drop, refl, sym, ◌∙◌, ap, subst, arith}
use Rattle.std.specs.Prelude.{ℤ, pos, negsuc, ◌+ℤ◌, ◌*ℤ◌, Bool, true, false, if◌then◌else◌, nat_eq, nat_lt}
use Rattle.std.specs.Int.{w32, int_wrap}
use Rattle.std.proofs.lemmas.Int.{ints, int_wrap_fits}
use Rattle.std.proofs.lemmas.Bool.Decides.{nat_tests}
use lib.IntN.{+ℤ_idl, *ℤ_comm}
use Rattle.pc_word.specs.declared.item.OpCode.TheVariants.{Add, Sub, Mul}
use Rattle.pc_word.specs.Word.{word_sub}
use Rattle.pc_linear.specs.declared.term.Term.{Term}
use Rattle.pc_linear.specs.Form.{Form, most_terms, IsNormal, IsForm, factor_of, ◌≈◌}
use Rattle.pc_linear.specs.Combine.{prepended, add_term, add_times, plus, difference, constant_form, variable_form, times_form, fitting, combine}
use Rattle.pc_linear.proofs.Words.{distribute_left, times_times, one_times, minus_one, wrap_same, add_same, times_same, word_add-is, word_mul-is}
use Rattle.pc_linear.proofs.Normal.{plus-normal, constant-normal, add_term-length, factor-word, plus-factor, same_form}
use Rattle.pc_window.specs.Opening.{TermsBelow, FormBelow}
use Rattle.pc_window.specs.Rebasing.{rewritten_by, rewritten}
use Rattle.pc_window.proofs.Forms.{plus-below}
use Rattle.pc_rebase.specs.models.Rewriting.{then_form, replaced}

-- ---- sums that are combined

pub fitting_few : (f : Form) → length f.terms ≤ most_terms → fitting f ≡ Some f
fitting_few f few = by (nat_lt most_terms (length f.terms)) refl
  where
    by : (b : Bool) → nat_lt most_terms (length f.terms) ≡ b → (if b then None else Some f) ≡ Some f
    by true e = let lt : most_terms < length f.terms = grind (arith, nat_tests) in absurd (omega arith)
    by false e = refl

combine_sub : (f g : Form) → combine Sub f g ≡ fitting (difference f g)
unfolding word_sub
combine_sub f g = by f.terms g.terms f.constant g.constant
  where
    by : (ts us : List Term) (c d : ℤ) → combine Sub (record { terms = ts; constant = c }) (record { terms = us; constant = d })
        ≡ fitting (difference (record { terms = ts; constant = c }) (record { terms = us; constant = d }))
    by [] [] c d = ap (λ (z : ℤ). Some (constant_form (int_wrap w32 (c +ℤ z)))) (sym (minus_one d))
    by [] (u ∷ us) c d = refl
    by (t ∷ ts) us c d = refl

pub combine_add : (f g : Form) → combine Add f g ≡ fitting (plus f (pos 1) g)
combine_add f g = by f.terms g.terms f.constant g.constant
  where
    by : (ts us : List Term) (c d : ℤ) → combine Add (record { terms = ts; constant = c }) (record { terms = us; constant = d })
        ≡ fitting (plus (record { terms = ts; constant = c }) (pos 1) (record { terms = us; constant = d }))
    by [] [] c d = ap (λ (z : ℤ). Some (constant_form z)) (word_add-is c d) ∙ ap (λ (z : ℤ). Some (constant_form (int_wrap w32 (c +ℤ z)))) (sym (one_times d))
    by [] (u ∷ us) c d = refl
    by (t ∷ ts) us c d = refl

combine_times : (k : ℤ) (g : Form) → combine Mul (constant_form k) g ≡ fitting (times_form g k)
combine_times k g = by g.terms g.constant
  where
    by : (us : List Term) (d : ℤ) → combine Mul (constant_form k) (record { terms = us; constant = d }) ≡ fitting (times_form (record { terms = us; constant = d }) k)
    by [] d = ap (λ (z : ℤ). Some (constant_form z)) (word_mul-is k d) ∙ ap (λ (z : ℤ). Some (constant_form (int_wrap w32 z))) (sym (+ℤ_idl (k *ℤ d)))
    by (u ∷ us) d = refl

pub add_times-length : (n : ℤ) (ts us : List Term) → length (add_times n ts us) ≤ length ts + length us
add_times-length n [] us = omega arith
add_times-length n (t ∷ ts) us =
    let one = add_term-length t.variable (n *ℤ t.factor) us in
    let more = add_times-length n ts (add_term t.variable (n *ℤ t.factor) us) in
    omega arith

-- a form of few terms, so many times
pub times_few : (k : ℤ) (g : Form) → length g.terms ≤ most_terms → combine Mul (constant_form k) g ≡ Some (times_form g k)
times_few k g few = combine_times k g ∙ fitting_few (times_form g k) (let le = add_times-length k g.terms [] in omega arith)

-- ---- a new variable is one term more

longer : (y : ℕ) (z : ℤ) (us : List Term) → TermsBelow y us → length us ≤ length (add_term y z us)
longer y z [] below = omega arith
longer y z (t ∷ us) below = by (nat_lt y t.variable) (nat_eq y t.variable) refl refl below.0 (longer y z us below.1)
  where
    by : (less equal : Bool) → nat_lt y t.variable ≡ less → nat_eq y t.variable ≡ equal → t.variable < y → length us ≤ length (add_term y z us)
        → suc (length us)
        ≤ length (if less then prepended y (int_wrap w32 z) (t ∷ us) else if equal then prepended y (int_wrap w32 (z +ℤ t.factor)) us else t ∷ add_term y z us)
    by true equal e d lt h = let more : y < t.variable = grind (arith, nat_tests) in absurd (omega arith)
    by false true e d lt h = let same : y ≡ t.variable = grind arith in absurd (omega arith)
    by false false e d lt h = omega arith

no_shorter : (y : ℕ) (w : ℤ) (us : List Term) → TermsBelow y us → length us ≤ length (add_times (pos 1) (prepended y w []) us)
no_shorter y (pos zero) us below = omega arith
no_shorter y (pos (suc n)) us below = longer y (pos 1 *ℤ pos (suc n)) us below
no_shorter y (negsuc n) us below = longer y (pos 1 *ℤ negsuc n) us below

-- ---- both ways give one form

numbers_same : (F G V k : ℤ)
    → int_wrap w32 (int_wrap w32 (F +ℤ (negsuc 0 *ℤ int_wrap w32 (pos 0 +ℤ (k *ℤ G)))) +ℤ (pos 1 *ℤ int_wrap w32 (pos 0 +ℤ (k *ℤ V))))
    ≡ int_wrap w32 (F +ℤ (k *ℤ int_wrap w32 (V +ℤ (negsuc 0 *ℤ G))))
numbers_same F G V k =
    let goes = int_wrap w32 (pos 0 +ℤ (k *ℤ G)) in
    let comes = int_wrap w32 (pos 0 +ℤ (k *ℤ V)) in
    let less = V +ℤ (negsuc 0 *ℤ G) in
    add_same (int_wrap w32 (F +ℤ (negsuc 0 *ℤ goes))) (F +ℤ (negsuc 0 *ℤ (k *ℤ G))) (pos 1 *ℤ comes) (pos 1 *ℤ (k *ℤ V))
    (wrap_same (F +ℤ (negsuc 0 *ℤ goes)) ∙ add_same F F (negsuc 0 *ℤ goes) (negsuc 0 *ℤ (k *ℤ G)) refl (times_same (negsuc 0) (negsuc 0) goes (k *ℤ G) refl (word_of (k *ℤ G))))
    (times_same (pos 1) (pos 1) comes (k *ℤ V) refl (word_of (k *ℤ V)))
    ∙ ap (int_wrap w32) middle
    ∙ sym (add_same F F (k *ℤ int_wrap w32 less) (k *ℤ less) refl (times_same k k (int_wrap w32 less) less refl (wrap_same less)))
  where
    word_of : (z : ℤ) → int_wrap w32 (pos 0 +ℤ z) ≈ z
    word_of z = wrap_same (pos 0 +ℤ z) ∙ ap (int_wrap w32) (+ℤ_idl z)

    turned : k *ℤ (negsuc 0 *ℤ G) ≡ negsuc 0 *ℤ (k *ℤ G)
    turned = sym (times_times k (negsuc 0) G) ∙ ap (λ (z : ℤ). z *ℤ G) (*ℤ_comm k (negsuc 0)) ∙ times_times (negsuc 0) k G

    regroup : (a b c : ℤ) → (a +ℤ b) +ℤ c ≡ a +ℤ (c +ℤ b)
    regroup a b c = omega (arith, ints)

    middle : (F +ℤ (negsuc 0 *ℤ (k *ℤ G))) +ℤ (pos 1 *ℤ (k *ℤ V)) ≡ F +ℤ (k *ℤ (V +ℤ (negsuc 0 *ℤ G)))
    middle =
        ap (λ (z : ℤ). (F +ℤ (negsuc 0 *ℤ (k *ℤ G))) +ℤ z) (one_times (k *ℤ V))
        ∙ regroup F (negsuc 0 *ℤ (k *ℤ G)) (k *ℤ V)
        ∙ ap (λ (z : ℤ). F +ℤ ((k *ℤ V) +ℤ z)) (sym turned)
        ∙ ap (λ (z : ℤ). F +ℤ z) (sym (distribute_left V (negsuc 0 *ℤ G) k))

pub zero_normal : IsNormal (constant_form (pos 0))
zero_normal = constant-normal (pos 0) (record { sfits = omega arith })

variable_normal : (y : ℕ) → IsNormal (variable_form y)
variable_normal y = record {
  rising = (omega arith, tt);
  factors = (record { word = record { sfits = omega arith }; nonzero = λ e. omega (arith, ints) }, tt);
  constant = record { sfits = omega arith };
}

module _ (f g : Form) (k : ℤ) (y : ℕ) (fk : IsForm f) (gk : IsForm g) where
  abbrev rest : Form
  rest = difference f (times_form g k)

  abbrev whole : Form
  whole = plus f k (plus (variable_form y) (negsuc 0) g)

  rest_factor : (x : ℕ) → factor_of rest.terms x ≡ int_wrap w32 (factor_of f.terms x +ℤ (negsuc 0 *ℤ int_wrap w32 (pos 0 +ℤ (k *ℤ factor_of g.terms x))))
  rest_factor x =
      plus-factor f (negsuc 0) (times_form g k) x fk.normal
      ∙ ap (λ (z : ℤ). int_wrap w32 (factor_of f.terms x +ℤ (negsuc 0 *ℤ z))) (plus-factor (constant_form (pos 0)) k g x zero_normal)

  same_whole : plus rest (pos 1) (times_form (variable_form y) k) ≡ whole
  same_whole =
      same_form (plus rest (pos 1) (times_form (variable_form y) k)) whole
      (plus-normal rest (pos 1) (times_form (variable_form y) k) (plus-normal f (negsuc 0) (times_form g k) fk.normal))
      (plus-normal f k (plus (variable_form y) (negsuc 0) g) fk.normal)
      (λ x.
      plus-factor rest (pos 1) (times_form (variable_form y) k) x (plus-normal f (negsuc 0) (times_form g k) fk.normal)
      ∙ (λ i. int_wrap w32 (rest_factor x i +ℤ (pos 1 *ℤ plus-factor (constant_form (pos 0)) k (variable_form y) x zero_normal i)))
      ∙ numbers_same (factor_of f.terms x) (factor_of g.terms x) (factor_of (variable_form y).terms x) k
      ∙ sym (plus-factor f k (plus (variable_form y) (negsuc 0) g) x fk.normal
      ∙ ap (λ (z : ℤ). int_wrap w32 (factor_of f.terms x +ℤ (k *ℤ z))) (plus-factor (variable_form y) (negsuc 0) g x (variable_normal y))))
      (numbers_same f.constant g.constant (pos 0) k)

  module _ (fb : FormBelow y f) (gb : FormBelow y g) where
    rest_below : FormBelow y rest
    rest_below = plus-below y f (negsuc 0) (times_form g k) fb (plus-below y (constant_form (pos 0)) k g tt gb)

    whole_longer : length rest.terms ≤ length whole.terms
    whole_longer = subst (λ (h : Form). length rest.terms ≤ length h.terms) same_whole (no_shorter y (int_wrap w32 (k *ℤ pos 1)) rest.terms rest_below)

    last : then_form (fitting rest) (λ r. combine Add r (times_form (variable_form y) k)) ≡ fitting whole
    last = by (nat_lt most_terms (length rest.terms)) refl
      where
        too_long : nat_lt most_terms (length rest.terms) ≡ true → nat_lt most_terms (length whole.terms) ≡ true
        too_long e = let lt : most_terms < length rest.terms = grind (arith, nat_tests) in let le = whole_longer in let more : most_terms < length whole.terms = omega arith in grind (arith, nat_tests)

        by : (b : Bool) → nat_lt most_terms (length rest.terms) ≡ b
            → then_form (if b then None else Some rest) (λ r. combine Add r (times_form (variable_form y) k)) ≡ fitting whole
        by true e = ap (λ (c : Bool). if c then None else Some whole) (sym (too_long e))
        by false e = combine_add rest (times_form (variable_form y) k) ∙ ap fitting same_whole

    pub replaced-is : replaced f k y g ≡ fitting whole
    replaced-is =
        ap (λ (o : Option Form). then_form o (λ goes. then_form (combine Mul (constant_form k) (variable_form y)) (λ comes. then_form (combine Sub f goes) (λ r. combine Add r comes))))
        (times_few k g gk.few)
        ∙ ap (λ (o : Option Form). then_form o (λ comes. then_form (combine Sub f (times_form g k)) (λ r. combine Add r comes))) (times_few k (variable_form y) (omega arith))
        ∙ ap (λ (o : Option Form). then_form o (λ r. combine Add r (times_form (variable_form y) k))) (combine_sub f (times_form g k))
        ∙ last

-- ---- a form rewritten

module _ (f : Form) (x : ℕ) (k : ℤ) (fk : IsForm f) (is : k ≡ factor_of (drop 0 f.terms) x) where
  its_word : int_wrap w32 (factor_of f.terms x) ≡ k
  its_word = int_wrap_fits w32 (factor_of f.terms x) (factor-word x 0 f.terms fk.normal.rising fk.normal.factors) ∙ sym is

  -- it stays where the variable has no factor
  pub stays : (d : Form) → k ≡ pos 0 → Some f ≡ fitting (rewritten x d f)
  stays d none = sym (ap (λ (z : ℤ). fitting (rewritten_by z d f)) (its_word ∙ none) ∙ fitting_few f fk.few)

  -- and else the variable is taken out
  pub is_replaced : (g : Form) (y : ℕ) (found : Option Form) → IsForm g → FormBelow y f → FormBelow y g → k ≢ pos 0 → found ≡ replaced f k y g
      → found ≡ fitting (rewritten x (plus (variable_form y) (negsuc 0) g) f)
  is_replaced g y found gk fb gb some made =
      made ∙ replaced-is f g k y fk gk fb gb
      ∙ ap fitting (sym (ap (λ (z : ℤ). rewritten_by z (plus (variable_form y) (negsuc 0) g) f) its_word ∙ by k some))
    where
      by : (z : ℤ) → z ≢ pos 0 → rewritten_by z (plus (variable_form y) (negsuc 0) g) f ≡ plus f z (plus (variable_form y) (negsuc 0) g)
      by (pos zero) other = absurd (other refl)
      by (pos (suc n)) other = refl
      by (negsuc n) other = refl

pub ruleset rewriting = (stays, is_replaced)
