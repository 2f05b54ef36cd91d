-- The columns of form variables, gathered a term at a time.
use Rattle.std.proofs.Common.{◌≡◌, ℕ, zero, suc, ◌+◌, ◌<◌, List, [], ◌∷◌, ◌++◌, Some, None, length, drop, refl, sym, ◌∙◌, ap, subst, arith}
use Rattle.std.specs.Prelude.{ℤ, map, replicate, slice_get}
use Rattle.pc_linear.specs.declared.term.Term.{Term}
use Rattle.pc_linear.specs.Form.{Form}
use Rattle.pc_window.specs.Opening.{TermsBelow}
use Rattle.pc_linear.proofs.FewPlaces.{few_places, fewer_places, none_from, one_from}
use Rattle.pc_canon.specs.Canonical.{constant_in, columns_of}
use Rattle.pc_canon.specs.Key.{constant_numbers, column_numbers, list_numbers}
use Rattle.pc_canon.specs.models.Gathered.{and_term, and_terms, with_factors, and_forms}
use Rattle.pc_canon.specs.models.Written.{forms_numbers}
use Rattle.pc_canon.proofs.Codes.{joined}

module _ (ts : List Term) (at : ℕ) where
  pub no_terms_left : (place : ℕ) (columns : List (List ℤ)) → slice_get ts at ≡ None → columns ≡ and_terms place (drop at ts) columns
  no_terms_left place columns none = ap (λ (us : List Term). and_terms place us columns) (sym (none_from ts at none))

  pub term_added : (place : ℕ) (t : Term) (columns mid new : List (List ℤ)) → slice_get ts at ≡ Some t → mid ≡ and_term place t columns
      → new ≡ and_terms place (drop (at + 1) ts) mid → new ≡ and_terms place (drop at ts) columns
  term_added place t columns mid new is first rest =
      rest ∙ ap (and_terms place (drop (at + 1) ts)) first ∙ ap (λ (us : List Term). and_terms place us columns) (sym (one_from ts at t is))

  pub term_below : (n : ℕ) (t : Term) → slice_get ts at ≡ Some t → TermsBelow n (drop at ts) → t.variable < n
  term_below n t is below = (subst (λ (us : List Term). TermsBelow n us) (one_from ts at t is) below).0

  pub terms_below : (n : ℕ) (t : Term) → slice_get ts at ≡ Some t → TermsBelow n (drop at ts) → TermsBelow n (drop (at + 1) ts)
  terms_below n t is below = (subst (λ (us : List Term). TermsBelow n us) (one_from ts at t is) below).1

pub ruleset terms = (no_terms_left, term_added, term_below, terms_below, few_places, fewer_places)

-- ---- no columns

pub replicate-more : (column : List ℤ) (n : ℕ) → replicate (n + 1) column ≡ replicate n column ++ column ∷ []
replicate-more column n = ap (λ (m : ℕ). replicate m column) next ∙ at_end n
  where
    next : n + 1 ≡ suc n
    next = omega arith

    at_end : (n : ℕ) → column ∷ replicate n column ≡ replicate n column ++ column ∷ []
    at_end zero = refl
    at_end (suc n) = ap (λ (l : List (List ℤ)). column ∷ l) (at_end n)

pub ruleset empty = (replicate-more)

-- ---- the forms of names

pub and_forms-append : (place : ℕ) (fs gs : List Form) (columns : List (List ℤ)) → and_forms place (fs ++ gs) columns ≡ and_forms (place + length fs) gs (and_forms place fs columns)
and_forms-append place [] gs columns = ap (λ (n : ℕ). and_forms n gs columns) next
  where
    next : place ≡ place + 0
    next = omega arith
and_forms-append place (f ∷ fs) gs columns =
    and_forms-append (place + 1) fs gs (with_factors place f.terms 0 columns) ∙ ap (λ (n : ℕ). and_forms n gs (and_forms (place + 1) fs (with_factors place f.terms 0 columns))) next
  where
    next : place + 1 + length fs ≡ place + suc (length fs)
    next = omega arith

map-length : {A B : Type 0} (f : A → B) (xs : List A) → length (map f xs) ≡ length xs
map-length f [] = refl
map-length f (x ∷ xs) = ap suc (map-length f xs)

-- ---- the forms of a window

-- what is written of the forms, one part after the other
pub constants_written : (parameters definitions : List Form) (old one two : List ℤ) → one ≡ old ++ list_numbers constant_numbers (map constant_in parameters)
    → two ≡ one ++ list_numbers constant_numbers (map constant_in definitions)
    → two ≡ old ++ (list_numbers constant_numbers (map constant_in parameters) ++ list_numbers constant_numbers (map constant_in definitions))
constants_written parameters definitions old one two p q =
    let a = list_numbers constant_numbers (map constant_in parameters) in
    let b = list_numbers constant_numbers (map constant_in definitions) in
    q ∙ ap (λ (l : List ℤ). l ++ b) p ∙ joined old a b

pub all_forms_written : (parameters definitions : List Form) (old one new : List ℤ) (sorted : List (List ℤ))
    → one ≡ old ++ (list_numbers constant_numbers (map constant_in parameters) ++ list_numbers constant_numbers (map constant_in definitions))
    → new ≡ one ++ list_numbers column_numbers sorted → sorted ≡ columns_of (parameters ++ definitions) → new ≡ old ++ forms_numbers parameters definitions
all_forms_written parameters definitions old one new sorted p q is =
    let a = list_numbers constant_numbers (map constant_in parameters) in
    let b = list_numbers constant_numbers (map constant_in definitions) in
    let c = list_numbers column_numbers (columns_of (parameters ++ definitions)) in
    q ∙ ap (λ (l : List (List ℤ)). one ++ list_numbers column_numbers l) is ∙ ap (λ (l : List ℤ). l ++ c) p
    ∙ joined old (a ++ b) c ∙ ap (λ (l : List ℤ). old ++ l) (joined a b c)

-- the columns of parameters and then of definitions are those of both
pub both_gathered : (parameters definitions : List Form) (place : ℕ) (zeros one two : List (List ℤ)) → place ≡ length parameters → one ≡ and_forms 0 parameters zeros
    → two ≡ and_forms place definitions one → two ≡ and_forms 0 (parameters ++ definitions) zeros
both_gathered parameters definitions place zeros one two is first second =
    let from : place ≡ 0 + length parameters = omega (arith, is) in
    second ∙ (λ i. and_forms (from i) definitions (first i)) ∙ sym (and_forms-append 0 parameters definitions zeros)

pub names-length : (forms : ℕ → Form) (names : List ℕ) → length names ≡ length (map forms names)
names-length forms names = sym (map-length forms names)
