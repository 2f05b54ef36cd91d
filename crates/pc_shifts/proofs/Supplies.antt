-- Supplies of names that are alike, and what they are with more names.
use Rattle.std.proofs.Common.{◌≡◌, ℕ, suc, ◌<◌, ◌≤◌, List, [], ◌∷◌, Option, Some, None, refl, sym, ◌∙◌, ap, subst, arith}
use Rattle.std.specs.Prelude.{pos, ◌+ℤ◌, Bool, true, false, if◌then◌else◌, nat_eq, IfSome}
use Rattle.std.proofs.lemmas.Int.{ints}
use lib.IntN.{+ℤ_idl, +ℤ_idr}
use Rattle.pc_word.proofs.Truth.{or_false, or_made_false}
use Rattle.pc_linear.specs.declared.term.Term.{Term}
use Rattle.pc_linear.specs.Form.{Form, factor_of}
use Rattle.pc_linear.specs.Combine.{variable_form}
use Rattle.pc_window.specs.Opening.{Supply, changed, with_name, TermsBelow, FormBelow}
use Rattle.pc_window.specs.Rebasing.{is_in}
use Rattle.pc_window.proofs.Grafts.{Extends, Extends-refl, Extends-trans, with_name-extends, nat_eq-same}
use Rattle.pc_window.proofs.GraftForms.{with_name-below}
use Rattle.pc_window.proofs.Forms.{TermsBelow-later}
use Rattle.pc_canon.specs.Pairs.{Pair, ones, others}
use Rattle.pc_canon.specs.Shift.{OneToOne, EachPair, FormsAlike}
use Rattle.pc_canon.proofs.Membership.{has, distinct_from, distinct_to}
use Rattle.pc_shifts.specs.Alike.{HasNormalTerms, ResultsAlike}
use Rattle.pc_shifts.specs.Supplies.{SuppliesAlike}

-- two supplies with more names, by these variables and more: forms that were alike still are
pub record SuppliesGrow (variables : List Pair) (names names' : Supply) (more : List Pair) (later later' : Supply) : Type 0 where
  pub alike : SuppliesAlike more later later'
  pub still : (f g : Form) → FormBelow names.next_variable f → FormBelow names'.next_variable g → FormsAlike variables f g → FormsAlike more f g
  pub extends : Extends names later
  pub others_extend : Extends names' later'

pub grow_not : (variables : List Pair) (names names' : Supply) → SuppliesAlike variables names names' → SuppliesGrow variables names names' variables names names'
grow_not variables names names' alike =
    record { alike = alike; still = λ f g b b' h. h; extends = Extends-refl names; others_extend = Extends-refl names' }

pub grow_twice : (xs ys zs : List Pair) (a a' b b' c c' : Supply) → SuppliesGrow xs a a' ys b b' → SuppliesGrow ys b b' zs c c' → SuppliesGrow xs a a' zs c c'
grow_twice xs ys zs a a' b b' c c' p q = record {
  alike = q.alike;
  still = λ f g h h' k.
      q.still f g (TermsBelow-later a.next_variable b.next_variable f.terms p.extends.next_variable h)
      (TermsBelow-later a'.next_variable b'.next_variable g.terms p.others_extend.next_variable h') (p.still f g h h' k);
  extends = Extends-trans a b c p.extends q.extends;
  others_extend = Extends-trans a' b' c' p.others_extend q.others_extend;
}

-- forms of names that were there and alike still are
pub forms_later : (xs ys : List Pair) (a a' b b' : Supply) → SuppliesAlike xs a a' → SuppliesGrow xs a a' ys b b' → (x y : ℕ) → x < a.next → y < a'.next
    → FormsAlike xs (a.forms x) (a'.forms y) → FormsAlike ys (b.forms x) (b'.forms y)
forms_later xs ys a a' b b' s g x y lt lt' h =
    subst (λ (f : Form). FormsAlike ys f (b'.forms y)) (sym (g.extends.forms x lt))
    (subst (λ (f : Form). FormsAlike ys (a.forms x) f) (sym (g.others_extend.forms y lt'))
    (g.still (a.forms x) (a'.forms y) (s.below.form x) (s.others_below.form y) h))

-- ---- one more variable

pub factor_from : (m : ℕ) (ts : List Term) (x : ℕ) → TermsBelow m ts → m ≤ x → factor_of ts x ≡ pos 0
factor_from m [] x h le = refl
factor_from m (t ∷ ts) x h le =
    (λ i. (if other t.variable h.0 i then t.factor else pos 0) +ℤ factor_from m ts x h.1 le i) ∙ +ℤ_idl (pos 0)
  where
    other : (v : ℕ) → v < m → nat_eq x v ≡ false
    other v lt = grind arith

-- forms that are alike are so with a variable more that is new on each side
pub fresh_alike : (n n' : ℕ) (variables : List Pair) (f g : Form) → FormBelow n f → FormBelow n' g → FormsAlike variables f g
    → FormsAlike ((record { one = n; other = n' }) ∷ variables) f g
fresh_alike n n' variables f g b b' a = record {
  constants = a.constants;
  both_terms = a.both_terms;
  factors = (factor_from n f.terms n b (omega arith) ∙ sym (factor_from n' g.terms n' b' (omega arith)), a.factors);
  no_more = λ x e. a.no_more x ((or_false (nat_eq x n) (is_in x (ones variables)) e).1);
  no_others = λ y e. a.no_others y ((or_false (nat_eq y n') (is_in y (others variables)) e).1);
}

own : (n : ℕ) → factor_of (variable_form n).terms n ≡ pos 1
own n = (λ i. (if nat_eq-same n i then pos 1 else pos 0) +ℤ pos 0) ∙ +ℤ_idr (pos 1)

of_other : (n x : ℕ) → nat_eq x n ≡ false → factor_of (variable_form n).terms x ≡ pos 0
of_other n x e = (λ i. (if e i then pos 1 else pos 0) +ℤ pos 0) ∙ +ℤ_idr (pos 0)

less_differs : (x n : ℕ) → x < n → nat_eq x n ≡ false
less_differs x n lt = grind arith

-- and the two new variables are alike
pub new_alike : (n n' : ℕ) (variables : List Pair) → EachPair variables (λ x y. (x < n) × (y < n'))
    → FormsAlike ((record { one = n; other = n' }) ∷ variables) (variable_form n) (variable_form n')
new_alike n n' variables known = record {
  constants = refl;
  both_terms = refl;
  factors = (own n ∙ sym (own n'), each variables known);
  no_more = λ x e. of_other n x ((or_false (nat_eq x n) (is_in x (ones variables)) e).0);
  no_others = λ y e. of_other n' y ((or_false (nat_eq y n') (is_in y (others variables)) e).0);
}
  where
    each : (pairs : List Pair) → EachPair pairs (λ x y. (x < n) × (y < n'))
        → EachPair pairs (λ x y. factor_of (variable_form n).terms x ≡ factor_of (variable_form n').terms y)
    each [] h = tt
    each (pair ∷ pairs) h = (of_other n pair.one (less_differs pair.one n h.0.0) ∙ sym (of_other n' pair.other (less_differs pair.other n' h.0.1)), each pairs h.1)

one_not_there : (n n' : ℕ) (pairs : List Pair) → EachPair pairs (λ x y. (x < n) × (y < n')) → has (ones pairs) n ≡ false
one_not_there n n' [] h = refl
one_not_there n n' (pair ∷ pairs) h = or_made_false (nat_eq pair.one n) (has (ones pairs) n) (less_differs pair.one n h.0.0) (one_not_there n n' pairs h.1)

other_not_there : (n n' : ℕ) (pairs : List Pair) → EachPair pairs (λ x y. (x < n) × (y < n')) → has (others pairs) n' ≡ false
other_not_there n n' [] h = refl
other_not_there n n' (pair ∷ pairs) h = or_made_false (nat_eq pair.other n') (has (others pairs) n') (less_differs pair.other n' h.0.1) (other_not_there n n' pairs h.1)

still_once : (n n' : ℕ) (pairs : List Pair) → EachPair pairs (λ x y. (x < n) × (y < n')) → OneToOne pairs → OneToOne ((record { one = n; other = n' }) ∷ pairs)
still_once n n' pairs h once = record {
  ones_differ = distinct_to (n ∷ ones pairs) (one_not_there n n' pairs h, distinct_from (ones pairs) once.ones_differ);
  others_differ = distinct_to (n' ∷ others pairs) (other_not_there n n' pairs h, distinct_from (others pairs) once.others_differ);
}

still_known : (n n' : ℕ) (pairs : List Pair) → EachPair pairs (λ x y. (x < n) × (y < n')) → EachPair pairs (λ x y. (x < suc n) × (y < suc n'))
still_known n n' [] h = tt
still_known n n' (pair ∷ pairs) h = let lt = h.0.0 in let lt' = h.0.1 in ((omega (arith, lt), omega (arith, lt')), still_known n n' pairs h.1)

-- ---- one more name

pub variable_normal : (n : ℕ) → HasNormalTerms (variable_form n)
variable_normal n = record {
  rising = (omega arith, tt);
  factors = (record { word = record { sfits = omega arith }; nonzero = λ e. omega (arith, ints) }, tt);
}

pub changed_normal : (forms : ℕ → Form) (n : ℕ) (f : Form) → ((x : ℕ) → HasNormalTerms (forms x)) → HasNormalTerms f → (x : ℕ) → HasNormalTerms (changed forms n f x)
changed_normal forms n f all h x = by_test (nat_eq n x)
  where
    by_test : (b : Bool) → HasNormalTerms (if b then f else forms x)
    by_test true = h
    by_test false = all x

-- the form of a name that was given last
given : (forms : ℕ → Form) (n : ℕ) (f : Form) → changed forms n f n ≡ f
given forms n f = ap (λ (b : Bool). if b then f else forms n) (nat_eq-same n)

-- two supplies with a name more, and alike forms of the two new names
pub record NamedAlike (variables : List Pair) (names names' later later' : Supply) : Type 0 where
  pub more : List Pair
  pub grow : SuppliesGrow variables names names' more later later'
  pub new : FormsAlike more (later.forms names.next) (later'.forms names'.next)

pub named_alike : (variables : List Pair) (names names' : Supply) (form form' : Option Form) → SuppliesAlike variables names names' → ResultsAlike variables form form'
    → IfSome form (FormBelow names.next_variable) → IfSome form' (FormBelow names'.next_variable) → IfSome form HasNormalTerms → IfSome form' HasNormalTerms
    → NamedAlike variables names names' (with_name names form) (with_name names' form')
named_alike variables names names' (Some f) (Some g) s a b b' p p' = record {
  more = variables;
  grow = record {
    alike = record {
      once = s.once;
      known = s.known;
      below = with_name-below names (Some f) b s.below;
      others_below = with_name-below names' (Some g) b' s.others_below;
      normal = changed_normal names.forms names.next f s.normal p;
      others_normal = changed_normal names'.forms names'.next g s.others_normal p';
    };
    still = λ h k q q' alike. alike;
    extends = with_name-extends names (Some f);
    others_extend = with_name-extends names' (Some g);
  };
  new = subst (λ (h : Form). FormsAlike variables h (changed names'.forms names'.next g names'.next)) (sym (given names.forms names.next f))
      (subst (λ (h : Form). FormsAlike variables f h) (sym (given names'.forms names'.next g)) a);
}
named_alike variables names names' None None s a b b' p p' =
    let n = names.next_variable in
    let n' = names'.next_variable in
    let more : List Pair = (record { one = n; other = n' }) ∷ variables in
    record {
      more = more;
      grow = record {
        alike = record {
          once = still_once n n' variables s.known s.once;
          known = ((omega arith, omega arith), still_known n n' variables s.known);
          below = with_name-below names None b s.below;
          others_below = with_name-below names' None b' s.others_below;
          normal = changed_normal names.forms names.next (variable_form n) s.normal (variable_normal n);
          others_normal = changed_normal names'.forms names'.next (variable_form n') s.others_normal (variable_normal n');
        };
        still = λ f g q q' alike. fresh_alike n n' variables f g q q' alike;
        extends = with_name-extends names None;
        others_extend = with_name-extends names' None;
      };
      new = subst (λ (h : Form). FormsAlike more h (changed names'.forms names'.next (variable_form n') names'.next)) (sym (given names.forms names.next (variable_form n)))
          (subst (λ (h : Form). FormsAlike more (variable_form n) h) (sym (given names'.forms names'.next (variable_form n'))) (new_alike n n' variables s.known));
    }
named_alike variables names names' (Some f) None s a b b' p p' = absurd a
named_alike variables names names' None (Some g) s a b b' p p' = absurd a
