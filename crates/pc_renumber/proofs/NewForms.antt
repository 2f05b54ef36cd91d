-- Forms in new variables.
use Rattle.std.proofs.Common.{◌≡◌, ℕ, suc, ◌≤◌, List, [], ◌∷◌, length, map, refl, sym, ◌∙◌, ap, subst, arith}
use Rattle.std.specs.Prelude.{Bool, true, false, ◌||◌, nat_eq, slice_index}
use Rattle.std.specs.List.{AllByRecursion}
use Rattle.std.proofs.lemmas.Bool.{eqb-true}
use Rattle.std.proofs.lemmas.List.{length-map}
use Rattle.pc_linear.specs.declared.term.Term.{Term}
use Rattle.pc_linear.specs.Form.{Form, Rising, HasFactor, IsForm, term_in_variable, terms_in_variables, in_variables}
use Rattle.pc_window.specs.Opening.{TermsBelow, FormBelow}
use Rattle.pc_window.specs.declared.names.NameTable.{NameTable}
use Rattle.pc_window.specs.StoredWindow.{forms_in, supply_in}
use Rattle.pc_window.proofs.Grafts.{nat_eq-same}
use Rattle.pc_renumber.specs.Renumbering.{stands_in, stands_in_any, new_variable, renumbered_supply}
use Rattle.pc_renumber.specs.models.Numbering.{AreNew, Rise}
use Rattle.pc_renumber.proofs.NewVariables.{Among, rises, each_stands}
use Rattle.pc_word.proofs.Truth.{or_first, or_second}

-- ---- a whole form

module _ (numbers : List ℕ) where
  -- the numbers of rising variables rise
  rising_behind : (t : Term) (ts : List Term) → Rising (suc t.variable) ts → Rise numbers (t ∷ ts) → Rising (suc (slice_index numbers t.variable)) (terms_in_variables (slice_index numbers) ts)
  rising_behind t [] r rise = tt
  rising_behind t (u ∷ ts) r rise = (
    rise.rise t.variable u.variable (or_first (nat_eq t.variable t.variable) (stands_in (u ∷ ts) t.variable) (nat_eq-same t.variable)) r.0 rise.below.1.0,
    rising_behind u ts r.1 (record {
      below = rise.below.1;
      rise = λ x y e. rise.rise x y (or_second (nat_eq x t.variable) (stands_in (u ∷ ts) x) e);
    }),
  )

  rising_new : (ts : List Term) → Rising 0 ts → Rise numbers ts → Rising 0 (terms_in_variables (slice_index numbers) ts)
  rising_new [] r rise = tt
  rising_new (t ∷ ts) r rise = (omega arith, rising_behind t ts r.1 rise)

  same_factors : (ts : List Term) → AllByRecursion HasFactor ts → AllByRecursion HasFactor (terms_in_variables (slice_index numbers) ts)
  same_factors [] h = tt
  same_factors (t ∷ ts) h = (record { word = h.0.word; nonzero = h.0.nonzero }, same_factors ts h.1)

  -- a form in new variables is a form
  pub new_form : (f : Form) → IsForm f → Rise numbers f.terms → IsForm (in_variables (slice_index numbers) f)
  new_form f form rise = record {
    normal = record { rising = rising_new f.terms form.normal.rising rise; factors = same_factors f.terms form.normal.factors; constant = form.normal.constant };
    few = let many = length-map f.terms (term_in_variable (slice_index numbers)) in let few = form.few in omega (arith, many, few);
  }

-- ---- tables of names

module _ (fs : List Form) (names : List ℕ) (variables : ℕ) (below : (x : ℕ) → FormBelow variables (forms_in fs x)) where
  all_below : (xs : List ℕ) → AllByRecursion (FormBelow variables) (map (forms_in fs) xs)
  all_below [] = tt
  all_below (x ∷ xs) = (below x, all_below xs)

  pub listed_below : (forms : List Form) → forms ≡ map (forms_in fs) names → AllByRecursion (FormBelow variables) forms
  listed_below forms is = subst (AllByRecursion (FormBelow variables)) (sym is) (all_below names)

module _ (numbers : List ℕ) (forms : List Form) (variables : ℕ) (new : AreNew numbers forms variables) where
  stand_here : (ts : List Term) → Among (stands_in_any forms) ts → (x : ℕ) → stands_in ts x ≡ true → stands_in_any forms x ≡ true
  stand_here [] h x e = absurd (cc)
  stand_here (t ∷ ts) h x e = by (nat_eq x t.variable) refl e (stand_here ts h.1 x)
    where
      by : (b : Bool) → nat_eq x t.variable ≡ b → (b || stands_in ts x) ≡ true → (stands_in ts x ≡ true → stands_in_any forms x ≡ true)
          → stands_in_any forms x ≡ true
      by true same e next = subst (λ (y : ℕ). stands_in_any forms y ≡ true) (sym (eqb-true x t.variable same)) h.0
      by false other e next = next e

  terms_later : (m n : ℕ) → m ≤ n → (ts : List Term) → TermsBelow m ts → TermsBelow n ts
  terms_later m n le [] h = tt
  terms_later m n le (t ∷ ts) h = (let lt = h.0 in omega (arith, le, lt), terms_later m n le ts h.1)

  one_rises : (f : Form) → Among (stands_in_any forms) f.terms → FormBelow variables f → Rise numbers f.terms
  one_rises f among below = record {
    below = let many = new.many in terms_later variables (length numbers) (omega (arith, many)) f.terms below;
    rise = λ x y e lt within. (
        let many = new.many in
        let first = new.tells x (omega (arith, lt, within, many)) in
        let second = new.tells y (omega (arith, within, many)) in
        let less = rises (stands_in_any forms) x y (stand_here f.terms among x e) lt in
        omega (arith, first, second, less)
        );
  }

  each_rises : (fs : List Form) → AllByRecursion (λ (f : Form). Among (stands_in_any forms) f.terms) fs → AllByRecursion (FormBelow variables) fs
      → AllByRecursion (λ (f : Form). Rise numbers f.terms) fs
  each_rises [] h below = tt
  each_rises (f ∷ fs) h below = (one_rises f h.0 below.0, each_rises fs h.1 below.1)

  pub all_rise : AllByRecursion (FormBelow variables) forms → AllByRecursion (λ (f : Form). Rise numbers f.terms) forms
  all_rise below = each_rises forms (each_stands forms) below

  same_terms : (ts : List Term) → TermsBelow variables ts → terms_in_variables (slice_index numbers) ts ≡ terms_in_variables (new_variable forms) ts
  same_terms [] h = refl
  same_terms (t ∷ ts) h = λ i. record { variable = new.tells t.variable (let lt = h.0 in omega (arith, lt)) i; factor = t.factor } ∷ same_terms ts h.1 i

  same_forms : (fs : List Form) → AllByRecursion (FormBelow variables) fs → map (in_variables (slice_index numbers)) fs ≡ map (in_variables (new_variable forms)) fs
  same_forms [] h = refl
  same_forms (f ∷ fs) h = λ i. record { terms = same_terms f.terms h.0 i; constant = f.constant } ∷ same_forms fs h.1 i

  pub table_is : (later : NameTable) → AllByRecursion (FormBelow variables) forms → later.forms ≡ map (in_variables (slice_index numbers)) forms
      → later.next_variable ≡ slice_index numbers variables → supply_in later ≡ renumbered_supply forms variables
  table_is later below forms_are next = λ i. record {
    forms = forms_in ((forms_are ∙ same_forms forms below) i);
    next = (ap length forms_are ∙ length-map forms (in_variables (slice_index numbers))) i;
    next_variable = (next ∙ new.tells variables (omega arith)) i;
  }
