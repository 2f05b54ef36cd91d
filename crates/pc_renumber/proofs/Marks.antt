-- Marks tell which form variables stand in forms, and how many before each.
use Rattle.std.proofs.Common.{◌≡◌, ◌≢◌, ◌⊎◌, inl, inr, ℕ, zero, suc, ◌+◌, ◌<◌, ◌≤◌, List}
use Rattle.std.proofs.Common.{[], ◌∷◌, Some, None, length, drop, refl, sym, ◌∙◌, ap, subst, arith}
use Rattle.std.specs.Prelude.{Bool, true, false, ◌||◌, if◌then◌else◌, nat_eq, replicate, slice_get, slice_index, slice_index_or, slice_set}
use Rattle.std.specs.List.{AllByRecursion}
use Rattle.std.proofs.lemmas.List.{get_or-set_same, get_or-set_other, length-replicate}
use Rattle.std.proofs.lemmas.Bool.Decides.{eqb_tells}
use Rattle.pc_word.proofs.Lists.{all_at, set_length}
use Rattle.pc_linear.specs.declared.term.Term.{Term}
use Rattle.pc_linear.specs.Form.{Form}
use Rattle.pc_window.specs.Opening.{TermsBelow, FormBelow}
use Rattle.pc_linear.proofs.FewPlaces.{few_places, fewer_places, none_from, one_from}
use Rattle.pc_renumber.specs.Renumbering.{stands_in, stands_in_any, how_many_below}
use Rattle.pc_renumber.specs.models.Numbering.{and_terms, and_forms, counts_from, AreNew}

-- ---- the terms of a form

module _ (ts : List Term) (at : ℕ) where
  pub no_marks : (marks : List Bool) → slice_get ts at ≡ None → marks ≡ and_terms (drop at ts) marks
  no_marks marks none = ap (λ (us : List Term). and_terms us marks) (sym (none_from ts at none))

  pub term_marked : (t : Term) (marks new : List Bool) → slice_get ts at ≡ Some t → new ≡ and_terms (drop (at + 1) ts) (slice_set marks t.variable true)
      → new ≡ and_terms (drop at ts) marks
  term_marked t marks new is rest = rest ∙ ap (λ (us : List Term). and_terms us marks) (sym (one_from ts at t is))

  pub term_below : (n : ℕ) (t : Term) → slice_get ts at ≡ Some t → TermsBelow n (drop at ts) → t.variable < n
  term_below n t is below = (subst (λ (us : List Term). TermsBelow n us) (one_from ts at t is) below).0

  pub terms_below : (n : ℕ) (t : Term) → slice_get ts at ≡ Some t → TermsBelow n (drop at ts) → TermsBelow n (drop (at + 1) ts)
  terms_below n t is below = (subst (λ (us : List Term). TermsBelow n us) (one_from ts at t is) below).1

  pub terms_still_below : (marks : List Bool) (t : Term) → slice_get ts at ≡ Some t → TermsBelow (length marks) (drop at ts)
      → TermsBelow (length (slice_set marks t.variable true)) (drop (at + 1) ts)
  terms_still_below marks t is below =
      subst (λ (n : ℕ). TermsBelow n (drop (at + 1) ts)) (sym (set_length marks t.variable true)) (terms_below (length marks) t is below)

pub ruleset terms = (no_marks, term_marked, terms_still_below, few_places, fewer_places)

-- ---- as many marks as before

pub terms_length : (ts : List Term) (marks : List Bool) → length (and_terms ts marks) ≡ length marks
terms_length [] marks = refl
terms_length (t ∷ ts) marks = terms_length ts (slice_set marks t.variable true) ∙ set_length marks t.variable true

pub forms_length : (fs : List Form) (marks : List Bool) → length (and_forms fs marks) ≡ length marks
forms_length [] marks = refl
forms_length (f ∷ fs) marks = forms_length fs (and_terms f.terms marks) ∙ terms_length f.terms marks

-- a form of a list, where all are below
pub form_below : (n : ℕ) (fs : List Form) (at : ℕ) (f : Form) → AllByRecursion (FormBelow n) fs → slice_get fs at ≡ Some f → FormBelow n f
form_below n fs at f all is = all_at (FormBelow n) fs at f all is

pub ruleset marking = (form_below, terms_length)

-- ---- what is marked

abbrev marked : List Bool → ℕ → Bool
marked marks x = slice_index_or marks x false

joined : (a b c : Bool) → (a || (b || c)) ≡ ((b || a) || c)
joined true true c = refl
joined true false c = refl
joined false true c = refl
joined false false c = refl

one_marked : (marks : List Bool) (v x : ℕ) → x < length marks → marked (slice_set marks v true) x ≡ (nat_eq x v || marked marks x)
one_marked marks v x lt = by (eqb_tells x v)
  where
    by : ((nat_eq x v ≡ true) × (x ≡ v)) ⊎ ((nat_eq x v ≡ false) × (x ≢ v)) → marked (slice_set marks v true) x ≡ (nat_eq x v || marked marks x)
    by (inl same) =
        subst (λ (y : ℕ). marked (slice_set marks y true) x ≡ true) same.1 (get_or-set_same marks x true false lt)
        ∙ ap (λ (b : Bool). b || marked marks x) (sym same.0)
    by (inr apart) = get_or-set_other marks v x true false apart.1 ∙ ap (λ (b : Bool). b || marked marks x) (sym apart.0)

module _ (x : ℕ) where
  terms_marked : (ts : List Term) (marks : List Bool) → x < length marks → marked (and_terms ts marks) x ≡ (stands_in ts x || marked marks x)
  terms_marked [] marks lt = refl
  terms_marked (t ∷ ts) marks lt =
      terms_marked ts (slice_set marks t.variable true) (subst (λ (n : ℕ). x < n) (sym (set_length marks t.variable true)) lt)
      ∙ ap (λ (b : Bool). stands_in ts x || b) (one_marked marks t.variable x lt) ∙ joined (stands_in ts x) (nat_eq x t.variable) (marked marks x)

  forms_marked : (fs : List Form) (marks : List Bool) → x < length marks → marked (and_forms fs marks) x ≡ (stands_in_any fs x || marked marks x)
  forms_marked [] marks lt = refl
  forms_marked (f ∷ fs) marks lt =
      forms_marked fs (and_terms f.terms marks) (subst (λ (n : ℕ). x < n) (sym (terms_length f.terms marks)) lt)
      ∙ ap (λ (b : Bool). stands_in_any fs x || b) (terms_marked f.terms marks lt) ∙ joined (stands_in_any fs x) (stands_in f.terms x) (marked marks x)

unmarked : (n x : ℕ) → marked (replicate n false) x ≡ false
unmarked zero x = refl
unmarked (suc n) zero = refl
unmarked (suc n) (suc x) = unmarked n x

pub all_below : (n : ℕ) (fs : List Form) → AllByRecursion (FormBelow n) fs → AllByRecursion (FormBelow (length (replicate n false))) fs
all_below n fs h = subst (λ (m : ℕ). AllByRecursion (FormBelow m) fs) (sym (length-replicate n false)) h

-- ---- counts

same_count : (a b : ℕ → Bool) (n : ℕ) → ((x : ℕ) → x < n → a x ≡ b x) → how_many_below a n ≡ how_many_below b n
same_count a b zero h = refl
same_count a b (suc n) h = λ i. (if h n (omega arith) i then 1 else 0) + same_count a b n (λ x lt. h x (omega (arith, lt))) i

-- the first one apart from the others
count_first : (a : ℕ → Bool) (n : ℕ) → how_many_below a (suc n) ≡ (if a 0 then 1 else 0) + how_many_below (λ x. a (suc x)) n
count_first a zero = refl
count_first a (suc n) =
    ap (λ (m : ℕ). (if a (suc n) then 1 else 0) + m) (count_first a n) ∙ exchange (if a (suc n) then 1 else 0) (if a 0 then 1 else 0) (how_many_below (λ x. a (suc x)) n)
  where
    exchange : (k l m : ℕ) → k + (l + m) ≡ l + (k + m)
    exchange k l m = omega arith

count_at : (count : ℕ) (marks : List Bool) (x : ℕ) → x ≤ length marks → slice_index (counts_from count marks) x ≡ how_many_below (marked marks) x + count
count_at count [] zero h = omega arith
count_at count [] (suc x) h = absurd (omega (arith, h))
count_at count (m ∷ marks) zero h = omega arith
count_at count (m ∷ marks) (suc x) h =
    let next = count_at ((if m then 1 else 0) + count) marks x (omega (arith, h)) in
    let first = count_first (marked (m ∷ marks)) x in
    next ∙ regroup (how_many_below (marked marks) x) (if m then 1 else 0) count ∙ ap (λ (n : ℕ). n + count) (sym first)
  where
    regroup : (k l m : ℕ) → k + (l + m) ≡ (l + k) + m
    regroup k l m = omega arith

counts_length : (count : ℕ) (marks : List Bool) → length (counts_from count marks) ≡ suc (length marks)
counts_length count [] = refl
counts_length count (m ∷ marks) = ap suc (counts_length ((if m then 1 else 0) + count) marks)

pub new_numbers_are : (forms : List Form) (variables : ℕ) (marks : List Bool) (counts : List ℕ) → marks ≡ and_forms forms (replicate variables false)
    → counts ≡ counts_from 0 marks → AreNew counts forms variables
new_numbers_are forms variables marks counts is counted = record {
  many = ap length counted ∙ counts_length 0 marks ∙ ap suc long;
  tells = λ x le. (
      ap (λ (list : List ℕ). slice_index list x) counted ∙ count_at 0 marks x (subst (λ (n : ℕ). x ≤ n) (sym long) le)
      ∙ nothing_more (how_many_below (marked marks) x) ∙ same_count (marked marks) (stands_in_any forms) x (λ y lt. stand y (less lt le))
      );
}
  where
    long : length marks ≡ variables
    long = ap length is ∙ forms_length forms (replicate variables false) ∙ length-replicate variables false

    nothing_more : (n : ℕ) → n + 0 ≡ n
    nothing_more n = omega arith

    less : {x y : ℕ} → y < x → x ≤ variables → y < variables
    less lt le = omega (arith, lt, le)

    or_none : (b : Bool) → (b || false) ≡ b
    or_none true = refl
    or_none false = refl

    stand : (y : ℕ) → y < variables → marked marks y ≡ stands_in_any forms y
    stand y lt =
        ap (λ (list : List Bool). marked list y) is
        ∙ forms_marked y forms (replicate variables false) (subst (λ (n : ℕ). y < n) (sym (length-replicate variables false)) lt)
        ∙ ap (λ (b : Bool). stands_in_any forms y || b) (unmarked variables y) ∙ or_none (stands_in_any forms y)
