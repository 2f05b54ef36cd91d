-- What combines forms makes of forms that are alike such ones.
use Rattle.std.proofs.Common.{◌≡◌, ℕ, List, [], ◌∷◌, length, Option, Some, None, refl, sym, ◌∙◌, ap, subst, arith}
use Rattle.std.specs.Prelude.{ℤ, pos, negsuc, ◌+ℤ◌, ◌*ℤ◌, Bool, true, false, if◌then◌else◌, nat_lt}
use Rattle.std.specs.Int.{w32, int_wrap}
use lib.IntN.{*ℤ-zero}
use Rattle.pc_word.specs.declared.item.OpCode.{OpCode}
use Rattle.pc_word.specs.declared.item.OpCode.TheVariants.{Add, Sub, Mul, Shl}
use Rattle.pc_word.specs.Word.{word_apply}
use Rattle.pc_linear.specs.declared.term.Term.{Term}
use Rattle.pc_linear.specs.Form.{Form, most_terms, IsNormal, factor_of}
use Rattle.pc_linear.specs.Combine.{plus, constant_form, times_form, fitting, constant_by, constant_of, shift_factor, combine_by, combine}
use Rattle.pc_linear.proofs.Words.{wrap_zero}
use Rattle.pc_linear.proofs.Normal.{plus-normal, plus-factor}
use Rattle.pc_canon.specs.Pairs.{Pair, ones, others}
use Rattle.pc_canon.specs.Shift.{OneToOne, EachPair, has_terms, FormsAlike}
use Rattle.pc_canon.proofs.Membership.{has, has_is}
use Rattle.pc_shifts.specs.Alike.{HasNormalTerms, ResultsAlike}
use Rattle.pc_shifts.proofs.Counts.{as_many, as_long}

-- ---- sums

-- the same terms without the constant
abbrev without_constant : Form → Form
without_constant f = record { terms = f.terms; constant = pos 0 }

normal_without : (f : Form) → HasNormalTerms f → IsNormal (without_constant f)
normal_without f h = record { rising = h.rising; factors = h.factors; constant = record { sfits = omega arith } }

-- the terms of a sum are in normal form
pub sum_normal : (f : Form) (n : ℤ) (g : Form) → HasNormalTerms f → HasNormalTerms (plus f n g)
sum_normal f n g h =
    let k = plus-normal (without_constant f) n g (normal_without f h) in
    record { rising = k.rising; factors = k.factors }

sum_factor : (f : Form) (n : ℤ) (g : Form) (x : ℕ) → HasNormalTerms f → factor_of (plus f n g).terms x ≡ int_wrap w32 (factor_of f.terms x +ℤ (n *ℤ factor_of g.terms x))
sum_factor f n g x h = plus-factor (without_constant f) n g x (normal_without f h)

-- a variable without a factor in two forms has none in their sum
no_factor : (f : Form) (n : ℤ) (g : Form) (x : ℕ) → HasNormalTerms f → factor_of f.terms x ≡ pos 0 → factor_of g.terms x ≡ pos 0 → factor_of (plus f n g).terms x ≡ pos 0
no_factor f n g x h p q = sum_factor f n g x h ∙ (λ i. int_wrap w32 (p i +ℤ (n *ℤ q i))) ∙ ap (λ (z : ℤ). int_wrap w32 (pos 0 +ℤ z)) (*ℤ-zero n) ∙ wrap_zero

same_terms : (ts us : List Term) → length ts ≡ length us → has_terms ts ≡ has_terms us
same_terms [] [] e = refl
same_terms (t ∷ ts) (u ∷ us) e = refl
same_terms [] (u ∷ us) e = absurd (cc)
same_terms (t ∷ ts) [] e = absurd (cc)

pub sums_alike : (variables : List Pair) (f f' g g' : Form) (n : ℤ) → OneToOne variables → HasNormalTerms f → HasNormalTerms f'
    → FormsAlike variables f f' → FormsAlike variables g g' → FormsAlike variables (plus f n g) (plus f' n g')
sums_alike variables f f' g g' n once p p' a b =
    let same = both variables a.factors b.factors in
    let none : (x : ℕ) → has (ones variables) x ≡ false → factor_of (plus f n g).terms x ≡ pos 0 =
    λ x e. let is = sym (has_is (ones variables) x) ∙ e in no_factor f n g x p (a.no_more x is) (b.no_more x is) in
    let none' : (y : ℕ) → has (others variables) y ≡ false → factor_of (plus f' n g').terms y ≡ pos 0 =
    λ y e. let is = sym (has_is (others variables) y) ∙ e in no_factor f' n g' y p' (a.no_others y is) (b.no_others y is) in
    record {
      constants = λ i. int_wrap w32 (a.constants i +ℤ (n *ℤ b.constants i));
      both_terms = same_terms (plus f n g).terms (plus f' n g').terms
          (as_many variables (plus f n g) (plus f' n g') once (sum_normal f n g p) (sum_normal f' n g' p') same none none');
      factors = same;
      no_more = λ x e. none x (has_is (ones variables) x ∙ e);
      no_others = λ y e. none' y (has_is (others variables) y ∙ e);
    }
  where
    one : (x y : ℕ) → factor_of f.terms x ≡ factor_of f'.terms y → factor_of g.terms x ≡ factor_of g'.terms y → factor_of (plus f n g).terms x ≡ factor_of (plus f' n g').terms y
    one x y e k = sum_factor f n g x p ∙ (λ i. int_wrap w32 (e i +ℤ (n *ℤ k i))) ∙ sym (sum_factor f' n g' y p')

    both : (pairs : List Pair) → EachPair pairs (λ x y. factor_of f.terms x ≡ factor_of f'.terms y) → EachPair pairs (λ x y. factor_of g.terms x ≡ factor_of g'.terms y)
        → EachPair pairs (λ x y. factor_of (plus f n g).terms x ≡ factor_of (plus f' n g').terms y)
    both [] h k = tt
    both (pair ∷ pairs) h k = (one pair.one pair.other h.0 k.0, both pairs h.1 k.1)

-- ---- operators

pub constants_alike : (variables : List Pair) (z : ℤ) → FormsAlike variables (constant_form z) (constant_form z)
constants_alike variables z = record { constants = refl; both_terms = refl; factors = none variables; no_more = λ x e. refl; no_others = λ y e. refl }
  where
    none : (pairs : List Pair) → EachPair pairs (λ x y. factor_of [] x ≡ factor_of [] y)
    none [] = tt
    none (pair ∷ pairs) = (refl, none pairs)

pub constant_normal : (z : ℤ) → HasNormalTerms (constant_form z)
constant_normal z = record { rising = tt; factors = tt }

-- forms that are alike are the same number, or none
constant_same : (variables : List Pair) (f f' : Form) → FormsAlike variables f f' → constant_of f ≡ constant_of f'
constant_same variables f f' a = by_terms f.terms f'.terms a.both_terms
  where
    by_terms : (ts us : List Term) → has_terms ts ≡ has_terms us → constant_by ts f.constant ≡ constant_by us f'.constant
    by_terms [] [] e = ap (λ (z : ℤ). Some z) a.constants
    by_terms (t ∷ ts) (u ∷ us) e = refl
    by_terms [] (u ∷ us) e = absurd (cc)
    by_terms (t ∷ ts) [] e = absurd (cc)

module _ (variables : List Pair) (once : OneToOne variables) where
  fitting_alike : (f f' : Form) → HasNormalTerms f → HasNormalTerms f' → FormsAlike variables f f' → ResultsAlike variables (fitting f) (fitting f')
  fitting_alike f f' p p' a = by_length (nat_lt most_terms (length f.terms)) (nat_lt most_terms (length f'.terms)) (ap (nat_lt most_terms) (as_long variables f f' once p p' a))
    where
      by_length : (b b' : Bool) → b ≡ b' → ResultsAlike variables (if b then None else Some f) (if b' then None else Some f')
      by_length true true e = tt
      by_length false false e = a
      by_length true false e = absurd (cc)
      by_length false true e = absurd (cc)

  sum_fits : (f f' g g' : Form) (n : ℤ) → HasNormalTerms f → HasNormalTerms f' → FormsAlike variables f f' → FormsAlike variables g g'
      → ResultsAlike variables (fitting (plus f n g)) (fitting (plus f' n g'))
  sum_fits f f' g g' n p p' a b =
      fitting_alike (plus f n g) (plus f' n g') (sum_normal f n g p) (sum_normal f' n g' p') (sums_alike variables f f' g g' n once p p' a b)

  times_fits : (f f' : Form) (n : ℤ) → FormsAlike variables f f' → ResultsAlike variables (fitting (times_form f n)) (fitting (times_form f' n))
  times_fits f f' n a =
      sum_fits (constant_form (pos 0)) (constant_form (pos 0)) f f' n (constant_normal (pos 0)) (constant_normal (pos 0)) (constants_alike variables (pos 0)) a

  module _ (f f' g g' : Form) (p : HasNormalTerms f) (p' : HasNormalTerms f') (a : FormsAlike variables f f') (b : FormsAlike variables g g') where
    by_sides : (o : OpCode) (x y : Option ℤ) → ResultsAlike variables (combine_by o x y f g) (combine_by o x y f' g')
    by_sides o (Some c) (Some d) = constants_alike variables (word_apply o c d)
    by_sides Add None y = sum_fits f f' g g' (pos 1) p p' a b
    by_sides Add (Some c) None = sum_fits f f' g g' (pos 1) p p' a b
    by_sides Sub None y = sum_fits f f' g g' (negsuc 0) p p' a b
    by_sides Sub (Some c) None = sum_fits f f' g g' (negsuc 0) p p' a b
    by_sides Mul None (Some d) = times_fits f f' d a
    by_sides Mul (Some c) None = times_fits g g' c b
    by_sides Shl None (Some d) = times_fits f f' (shift_factor d) a
    by_sides _ x y = tt

pub combined_alike : (variables : List Pair) (op : OpCode) (f f' g g' : Form) → OneToOne variables → HasNormalTerms f → HasNormalTerms f'
    → FormsAlike variables f f' → FormsAlike variables g g' → ResultsAlike variables (combine op f g) (combine op f' g')
combined_alike variables op f f' g g' once p p' a b =
    subst (λ (x : Option ℤ). ResultsAlike variables (combine op f g) (combine_by op x (constant_of g') f' g')) (constant_same variables f f' a)
    (subst (λ (y : Option ℤ). ResultsAlike variables (combine op f g) (combine_by op (constant_of f) y f' g')) (constant_same variables g g' b)
    (by_sides variables once f f' g g' p p' a b op (constant_of f) (constant_of g)))
