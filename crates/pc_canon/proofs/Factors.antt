-- Columns that were gathered term by term are the columns of form variables.
use Rattle.std.proofs.Common.{◌≡◌, ◌≢◌, ℕ, zero, suc, ◌+◌, ◌-◌, ◌<◌, ◌≤◌, List, [], ◌∷◌, ◌++◌, length, refl, sym, ◌∙◌, ap, subst, arith}
use Rattle.std.specs.Prelude.{ℤ, pos, negsuc, ◌+ℤ◌, Bool, true, false, if◌then◌else◌, nat_eq, max, map, replicate, slice_index_or, slice_set}
use Rattle.std.specs.List.{AllByRecursion}
use Rattle.std.proofs.lemmas.Bool.{eqb-true, eq-eqb}
use Rattle.std.proofs.lemmas.List.{get_or-set_same, get_or-set_other}
use lib.IntN.{+ℤ_idl, +ℤ_idr}
use Rattle.pc_linear.specs.declared.term.Term.{Term}
use Rattle.pc_linear.specs.Form.{Form, IsForm, HasFactor, Rising, factor_of}
use Rattle.pc_window.specs.Opening.{TermsBelow, FormBelow}
use Rattle.pc_canon.specs.Canonical.{with_factor, column, with_occurring, columns_below, above_terms, above_forms, columns_of}
use Rattle.pc_canon.specs.models.Gathered.{column_in, and_term, and_terms, with_factors, and_forms}
use Rattle.pc_canon.proofs.Codes.{joined}
use Rattle.pc_canon.proofs.FactorColumns.{column-above}
use Rattle.pc_word.proofs.Places.{number_apart}

-- ---- a term at a time

append-none : (xs : List ℤ) → xs ++ [] ≡ xs
append-none [] = refl
append-none (x ∷ xs) = ap (λ (l : List ℤ). x ∷ l) (append-none xs)

-- below the first variable there is no factor
factor-below : (terms : List Term) (least x : ℕ) → Rising least terms → x < least → factor_of terms x ≡ pos 0
factor-below [] least x r h = refl
factor-below (term ∷ terms) least x r h =
    let le = r.0 in
    let apart : x ≢ term.variable = omega (arith, le, h) in
    (λ i. (if number_apart x term.variable apart i then term.factor else pos 0) +ℤ factor-below terms (suc term.variable) x r.1 (omega (arith, le, h)) i)

with_factor-some : (place : ℕ) (factor : ℤ) → factor ≢ pos 0 → with_factor place factor [] ≡ pos place ∷ factor ∷ []
with_factor-some place (pos zero) h = absurd (h refl)
with_factor-some place (pos (suc n)) h = refl
with_factor-some place (negsuc n) h = refl

and_term-length : (place : ℕ) (term : Term) (columns : List (List ℤ)) → length (and_term place term columns) ≡ length columns
and_term-length place term columns = set_long columns term.variable
  where
    set_long : (list : List (List ℤ)) (at : ℕ) → length (slice_set list at (column_in columns term.variable ++ pos place ∷ term.factor ∷ [])) ≡ length list
    set_long [] at = refl
    set_long (l ∷ list) zero = refl
    set_long (l ∷ list) (suc at) = ap suc (set_long list at)

pub and_terms-length : (place : ℕ) (terms : List Term) (columns : List (List ℤ)) → length (and_terms place terms columns) ≡ length columns
and_terms-length place [] columns = refl
and_terms-length place (term ∷ terms) columns = and_terms-length place terms (and_term place term columns) ∙ and_term-length place term columns

-- the column of a variable gets the variable's factor
and_terms-column : (place : ℕ) (terms : List Term) (least : ℕ) (columns : List (List ℤ)) (x : ℕ) → Rising least terms → AllByRecursion HasFactor terms → x < length columns
    → column_in (and_terms place terms columns) x ≡ column_in columns x ++ with_factor place (factor_of terms x) []
and_terms-column place [] least columns x r h there = sym (append-none (column_in columns x))
and_terms-column place (term ∷ terms) least columns x r h there =
    and_terms-column place terms (suc term.variable) (and_term place term columns) x r.1 h.1 (subst (λ (n : ℕ). x < n) (sym (and_term-length place term columns)) there)
    ∙ by (nat_eq x term.variable) refl
  where
    more : List ℤ
    more = pos place ∷ term.factor ∷ []

    by : (b : Bool) → nat_eq x term.variable ≡ b
        → column_in (and_term place term columns) x ++ with_factor place (factor_of terms x) []
        ≡ column_in columns x ++ with_factor place ((if b then term.factor else pos 0) +ℤ factor_of terms x) []
    by true e =
        let same = eqb-true x term.variable e in
        let none : factor_of terms x ≡ pos 0 = factor-below terms (suc term.variable) x r.1 (omega (arith, same)) in
        let here : column_in (and_term place term columns) x ≡ column_in columns x ++ (pos place ∷ term.factor ∷ []) =
        subst (λ (y : ℕ). column_in (slice_set columns y (column_in columns y ++ pos place ∷ term.factor ∷ [])) x ≡ column_in columns x ++ (pos place ∷ term.factor ∷ [])) same
        (get_or-set_same columns x (column_in columns x ++ pos place ∷ term.factor ∷ []) [] there) in
        (λ i. here i ++ with_factor place (none i) []) ∙ append-none (column_in columns x ++ (pos place ∷ term.factor ∷ []))
        ∙ ap (λ (l : List ℤ). column_in columns x ++ l) (sym (with_factor-some place term.factor h.0.nonzero))
        ∙ ap (λ (z : ℤ). column_in columns x ++ with_factor place z []) (sym (+ℤ_idr term.factor) ∙ ap (λ (z : ℤ). term.factor +ℤ z) (sym none))
    by false e =
        let other : x ≢ term.variable = λ same. (let k : nat_eq x term.variable ≡ true = eq-eqb x term.variable same in cc) in
        ap (λ (l : List ℤ). l ++ with_factor place (factor_of terms x) [])
        (get_or-set_other columns term.variable x (column_in columns term.variable ++ pos place ∷ term.factor ∷ []) [] other)
        ∙ ap (λ (z : ℤ). column_in columns x ++ with_factor place z []) (sym (+ℤ_idl (factor_of terms x)))

-- ---- a form at a time

with_factors-length : (place : ℕ) (terms : List Term) (x : ℕ) (columns : List (List ℤ)) → length (with_factors place terms x columns) ≡ length columns
with_factors-length place terms x [] = refl
with_factors-length place terms x (column ∷ columns) = ap suc (with_factors-length place terms (suc x) columns)

with_factors-column : (place : ℕ) (terms : List Term) (from x : ℕ) (columns : List (List ℤ)) → x < length columns
    → column_in (with_factors place terms from columns) x ≡ column_in columns x ++ with_factor place (factor_of terms (from + x)) []
with_factors-column place terms from x [] h = absurd (omega (arith, h))
with_factors-column place terms from zero (column ∷ columns) h = ap (λ (n : ℕ). column ++ with_factor place (factor_of terms n) []) next
  where
    next : from ≡ from + 0
    next = omega arith
with_factors-column place terms from (suc x) (column ∷ columns) h =
    with_factors-column place terms (suc from) x columns (omega (arith, h)) ∙ ap (λ (n : ℕ). column_in columns x ++ with_factor place (factor_of terms n) []) next
  where
    next : suc from + x ≡ from + suc x
    next = omega arith

same_lists : (xs ys : List (List ℤ)) → length xs ≡ length ys → ((x : ℕ) → x < length xs → column_in xs x ≡ column_in ys x) → xs ≡ ys
same_lists [] [] e h = refl
same_lists (x ∷ xs) (y ∷ ys) e h =
    (λ i. h 0 (omega arith) i ∷ same_lists xs ys (omega (arith, e)) (λ n lt. h (suc n) (omega (arith, lt))) i)
same_lists [] (y ∷ ys) e h = absurd (omega (arith, e))
same_lists (x ∷ xs) [] e h = absurd (omega (arith, e))

-- the terms of a form give each column the factor of its variable
pub form_gathered : (place : ℕ) (form : Form) (columns : List (List ℤ)) → IsForm form → and_terms place form.terms columns ≡ with_factors place form.terms 0 columns
form_gathered place form columns kept =
    let long = and_terms-length place form.terms columns in
    same_lists (and_terms place form.terms columns) (with_factors place form.terms 0 columns)
    (long ∙ sym (with_factors-length place form.terms 0 columns))
    (λ x lt. (let there = subst (λ (n : ℕ). x < n) long lt in
    let zero_more : 0 + x ≡ x = omega arith in
    and_terms-column place form.terms 0 columns x kept.normal.rising kept.normal.factors there
    ∙ ap (λ (n : ℕ). column_in columns x ++ with_factor place (factor_of form.terms n) []) (sym zero_more)
    ∙ sym (with_factors-column place form.terms 0 x columns there)))

and_forms-length : (place : ℕ) (forms : List Form) (columns : List (List ℤ)) → length (and_forms place forms columns) ≡ length columns
and_forms-length place [] columns = refl
and_forms-length place (form ∷ forms) columns =
    and_forms-length (place + 1) forms (with_factors place form.terms 0 columns) ∙ with_factors-length place form.terms 0 columns

with_factor-append : (place : ℕ) (factor : ℤ) (more : List ℤ) → with_factor place factor [] ++ more ≡ with_factor place factor more
with_factor-append place (pos zero) more = refl
with_factor-append place (pos (suc n)) more = refl
with_factor-append place (negsuc n) more = refl

and_forms-column : (place : ℕ) (forms : List Form) (columns : List (List ℤ)) (x : ℕ) → x < length columns
    → column_in (and_forms place forms columns) x ≡ column_in columns x ++ column place forms x
and_forms-column place [] columns x h = sym (append-none (column_in columns x))
and_forms-column place (form ∷ forms) columns x h =
    let zero_more : 0 + x ≡ x = omega arith in
    let next : place + 1 ≡ suc place = omega arith in
    and_forms-column (place + 1) forms (with_factors place form.terms 0 columns) x (subst (λ (n : ℕ). x < n) (sym (with_factors-length place form.terms 0 columns)) h)
    ∙ ap (λ (l : List ℤ). l ++ column (place + 1) forms x)
    (with_factors-column place form.terms 0 x columns h ∙ ap (λ (n : ℕ). column_in columns x ++ with_factor place (factor_of form.terms n) []) zero_more)
    ∙ joined (column_in columns x) (with_factor place (factor_of form.terms x) []) (column (place + 1) forms x)
    ∙ ap (λ (l : List ℤ). column_in columns x ++ l)
    (with_factor-append place (factor_of form.terms x) (column (place + 1) forms x) ∙ ap (λ (n : ℕ). with_factor place (factor_of form.terms x) (column n forms x)) next)

-- ---- all forms

below-same : (f g : ℕ → List ℤ) (n : ℕ) → ((x : ℕ) → x < n → f x ≡ g x) → columns_below f n ≡ columns_below g n
below-same f g zero h = refl
below-same f g (suc n) h = λ i. with_occurring (h n (omega arith) i) (below-same f g n (λ x lt. h x (omega (arith, lt))) i)

-- empty columns beyond do not show
below-more : (f : ℕ → List ℤ) (m more : ℕ) → ((x : ℕ) → m ≤ x → f x ≡ []) → columns_below f (more + m) ≡ columns_below f m
below-more f m zero h = ap (λ (n : ℕ). columns_below f n) next
  where
    next : 0 + m ≡ m
    next = omega arith
below-more f m (suc more) h =
    ap (λ (n : ℕ). columns_below f n) next
    ∙ ap (λ (c : List ℤ). with_occurring c (columns_below f (more + m))) (h (more + m) (omega arith)) ∙ below-more f m more h
  where
    next : suc more + m ≡ suc (more + m)
    next = omega arith

none_there : (n x : ℕ) (none : List ℤ) → none ≡ [] → slice_index_or (replicate n none) x [] ≡ []
none_there zero x none e = refl
none_there (suc n) zero none e = e
none_there (suc n) (suc x) none e = none_there n x none e

replicate-length : (n : ℕ) (none : List ℤ) → length (replicate n none) ≡ n
replicate-length zero none = refl
replicate-length (suc n) none = ap suc (replicate-length n none)

above_below : (m : ℕ) (terms : List Term) → TermsBelow m terms → above_terms terms ≤ m
above_below m [] h = omega arith
above_below m (term ∷ terms) h = let p = h.0 in let q = above_below m terms h.1 in omega (arith, p, q)

pub forms_above : (m : ℕ) (forms : ℕ → Form) (names : List ℕ) → ((x : ℕ) → FormBelow m (forms x)) → above_forms (map forms names) ≤ m
forms_above m forms [] h = omega arith
forms_above m forms (x ∷ names) h =
    let p = above_below m (forms x).terms (h x) in
    let q = forms_above m forms names h in
    omega (arith, p, q)

pub above-append : (m : ℕ) (fs gs : List Form) → above_forms fs ≤ m → above_forms gs ≤ m → above_forms (fs ++ gs) ≤ m
above-append m [] gs h k = k
above-append m (f ∷ fs) gs h k =
    let p = left (above_terms f.terms) (above_forms fs) h in
    let q = above-append m fs gs (right (above_terms f.terms) (above_forms fs) h) k in
    omega (arith, p, q)
  where
    left : (a b : ℕ) → max a b ≤ m → a ≤ m
    left a b h = omega (arith, h)

    right : (a b : ℕ) → max a b ≤ m → b ≤ m
    right a b h = omega (arith, h)

-- columns that are gathered from none on are those of all variables
pub gathered_from_none : (n : ℕ) (forms : List Form) (columns : List (List ℤ)) (none : List ℤ) → none ≡ [] → above_forms forms ≤ n
    → columns ≡ and_forms 0 forms (replicate n none) → columns_below (column_in columns) (length columns) ≡ columns_of forms
gathered_from_none n forms columns none empty above is =
    let zeros = replicate n none in
    let long : length columns ≡ n = ap (λ (l : List (List ℤ)). length l) is ∙ and_forms-length 0 forms zeros ∙ replicate-length n none in
    let pointwise : (x : ℕ) → x < n → column_in columns x ≡ column 0 forms x =
    λ x lt. ap (λ (l : List (List ℤ)). column_in l x) is
    ∙ and_forms-column 0 forms zeros x (subst (λ (m : ℕ). x < m) (sym (replicate-length n none)) lt)
    ∙ ap (λ (l : List ℤ). l ++ column 0 forms x) (none_there n x none empty) in
    let split : (n - above_forms forms) + above_forms forms ≡ n = omega (arith, above) in
    ap (columns_below (column_in columns)) long
    ∙ below-same (column_in columns) (column 0 forms) n pointwise
    ∙ ap (columns_below (column 0 forms)) (sym split)
    ∙ below-more (column 0 forms) (above_forms forms) (n - above_forms forms) (λ x h. column-above 0 forms x h)
