-- Sums of terms: a sum depends only on the factors of its variables.
use Rattle.std.proofs.Common.{◌≡◌, ℕ, List, [], ◌∷◌, refl, sym, ◌∙◌, ap, subst}
use Rattle.std.specs.Prelude.{ℤ, pos, ◌+ℤ◌, ◌-ℤ◌, ◌*ℤ◌, Bool, true, false, ◌||◌, if◌then◌else◌, nat_eq}
use Rattle.std.specs.Int.{w32, int_wrap}
use Rattle.std.proofs.Math.IntN.{neg_ℤ, suc_ℤ, pred_ℤ, ℤ_ind, +ℤ_assoc, +ℤ_comm, +ℤ_idl}
use Rattle.std.proofs.Math.IntN.{+ℤ_idr, +ℤ_one, -ℤ_one, suc_ℤ-+ℤ, pred_ℤ-+ℤ, suc_ℤ-*ℤ, pred_ℤ-*ℤ, zero-*ℤ}
use Rattle.std.proofs.lemmas.Bool.{eqb-true, eq-eqb}
use Rattle.pc_word.proofs.Truth.{or_false, or_second}
use Rattle.pc_linear.specs.declared.term.Term.{Term}
use Rattle.pc_linear.specs.Form.{Form, factor_in, factor_of, sum_of, form_number, ◌≈◌, Means, says}
use Rattle.pc_canon.specs.Pairs.{Pair, ones, others}
use Rattle.pc_canon.specs.Shift.{OneToOne, EachPair, has_terms, FormsAlike}
use Rattle.pc_canon.proofs.Membership.{has, Distinct, has_is, distinct_from}

-- ---- sums of whole numbers

last_first : (a b c : ℤ) → (a +ℤ b) +ℤ c ≡ (a +ℤ c) +ℤ b
last_first a b c = +ℤ_assoc a b c ∙ ap (λ (z : ℤ). a +ℤ z) (+ℤ_comm b c) ∙ sym (+ℤ_assoc a c b)

swaps : (a b c d : ℤ) → (a +ℤ b) +ℤ (c +ℤ d) ≡ (a +ℤ c) +ℤ (b +ℤ d)
swaps a b c d = sym (+ℤ_assoc (a +ℤ b) c d) ∙ ap (λ (z : ℤ). z +ℤ d) (last_first a b c) ∙ +ℤ_assoc (a +ℤ c) b d

abbrev Spreads : ℤ → ℤ → ℤ → Type 0
Spreads b c a = ((a +ℤ b) *ℤ c) ≡ ((a *ℤ c) +ℤ (b *ℤ c))

spreads_suc : (a b c : ℤ) → Spreads b c a → Spreads b c (suc_ℤ a)
spreads_suc a b c h =
    ap (λ (z : ℤ). z *ℤ c) (suc_ℤ-+ℤ a b) ∙ suc_ℤ-*ℤ (a +ℤ b) c ∙ ap (λ (z : ℤ). z +ℤ c) h
    ∙ last_first (a *ℤ c) (b *ℤ c) c ∙ ap (λ (z : ℤ). z +ℤ (b *ℤ c)) (sym (suc_ℤ-*ℤ a c))

spreads_pred : (a b c : ℤ) → Spreads b c a → Spreads b c (pred_ℤ a)
spreads_pred a b c h =
    ap (λ (z : ℤ). z *ℤ c) (pred_ℤ-+ℤ a b) ∙ pred_ℤ-*ℤ (a +ℤ b) c ∙ ap (λ (z : ℤ). z -ℤ c) h
    ∙ last_first (a *ℤ c) (b *ℤ c) (neg_ℤ c) ∙ ap (λ (z : ℤ). z +ℤ (b *ℤ c)) (sym (pred_ℤ-*ℤ a c))

spreads : (a b c : ℤ) → Spreads b c a
spreads a b c = ℤ_ind (Spreads b c)
    (ap (λ (z : ℤ). z *ℤ c) (+ℤ_idl b) ∙ sym (+ℤ_idl (b *ℤ c)) ∙ ap (λ (z : ℤ). z +ℤ (b *ℤ c)) (sym (zero-*ℤ c)))
    (λ n h. subst (Spreads b c) (sym (+ℤ_one (pos n))) (spreads_suc (pos n) b c h))
    (λ n h. subst (Spreads b c) (sym (-ℤ_one (neg_ℤ (pos n)))) (spreads_pred (neg_ℤ (pos n)) b c h))
    a

-- ---- the sum over some variables

-- the factors of these variables times their words
abbrev sum_over : (ℕ → ℤ) → (ℕ → ℤ) → List ℕ → ℤ
sum_over words factors [] = pos 0
sum_over words factors (x ∷ xs) = (factors x *ℤ words x) +ℤ sum_over words factors xs

sum_over-plus : (words f g : ℕ → ℤ) (xs : List ℕ) → sum_over words (λ x. f x +ℤ g x) xs ≡ sum_over words f xs +ℤ sum_over words g xs
sum_over-plus words f g [] = refl
sum_over-plus words f g (x ∷ xs) =
    ap (λ (z : ℤ). z +ℤ sum_over words (λ x. f x +ℤ g x) xs) (spreads (f x) (g x) (words x))
    ∙ ap (λ (z : ℤ). ((f x *ℤ words x) +ℤ (g x *ℤ words x)) +ℤ z) (sum_over-plus words f g xs)
    ∙ swaps (f x *ℤ words x) (g x *ℤ words x) (sum_over words f xs) (sum_over words g xs)

sum_over-zero : (words : ℕ → ℤ) (xs : List ℕ) → sum_over words (λ x. pos 0) xs ≡ pos 0
sum_over-zero words [] = refl
sum_over-zero words (x ∷ xs) = ap (λ (z : ℤ). z +ℤ sum_over words (λ x. pos 0) xs) (zero-*ℤ (words x)) ∙ +ℤ_idl (sum_over words (λ x. pos 0) xs) ∙ sum_over-zero words xs

absent_cons : (b c : Bool) (k w rest : ℤ) → (b || c) ≡ false → (c ≡ false → rest ≡ pos 0) → ((if b then k else pos 0) *ℤ w) +ℤ rest ≡ pos 0
absent_cons true c k w rest h next = absurd (cc)
absent_cons false c k w rest h next = ap (λ (z : ℤ). z +ℤ rest) (zero-*ℤ w) ∙ +ℤ_idl rest ∙ next h

-- a term whose variable is none of these adds nothing
absent : (words : ℕ → ℤ) (term : Term) (xs : List ℕ) → has xs term.variable ≡ false → sum_over words (factor_in term) xs ≡ pos 0
absent words term [] h = refl
absent words term (x ∷ xs) h =
    absent_cons (nat_eq x term.variable) (has xs term.variable) term.factor (words x) (sum_over words (factor_in term) xs) h (λ k. absent words term xs k)

present_cons : (b c : Bool) (k w w' rest : ℤ) → (b || c) ≡ true → (b ≡ true → (w ≡ w') × (rest ≡ pos 0))
    → (c ≡ true → rest ≡ k *ℤ w') → ((if b then k else pos 0) *ℤ w) +ℤ rest ≡ k *ℤ w'
present_cons true c k w w' rest h here next =
    ap (λ (z : ℤ). (k *ℤ w) +ℤ z) (here refl).1 ∙ +ℤ_idr (k *ℤ w) ∙ ap (λ (z : ℤ). k *ℤ z) (here refl).0
present_cons false c k w w' rest h here next = ap (λ (z : ℤ). z +ℤ rest) (zero-*ℤ w) ∙ +ℤ_idl rest ∙ next h

-- a term whose variable is one of these adds its value
present : (words : ℕ → ℤ) (term : Term) (xs : List ℕ) → Distinct xs → has xs term.variable ≡ true → sum_over words (factor_in term) xs ≡ term.factor *ℤ words term.variable
present words term [] distinct h = absurd (cc)
present words term (x ∷ xs) distinct h =
    present_cons (nat_eq x term.variable) (has xs term.variable) term.factor (words x) (words term.variable) (sum_over words (factor_in term) xs) h
    (λ e. (ap words (eqb-true x term.variable e), absent words term xs (subst (λ (v : ℕ). has xs v ≡ false) (eqb-true x term.variable e) distinct.0)))
    (λ k. present words term xs distinct.1 k)

-- a list with one more number, if it is not there
abbrev with_one : Bool → ℕ → List ℕ → List ℕ
with_one true x xs = xs
with_one false x xs = x ∷ xs

-- a list with all variables of some terms
abbrev extended : List ℕ → List Term → List ℕ
extended xs [] = xs
extended xs (term ∷ terms) = extended (with_one (has xs term.variable) term.variable xs) terms

with_one-distinct : (b : Bool) (x : ℕ) (xs : List ℕ) → has xs x ≡ b → Distinct xs → Distinct (with_one b x xs)
with_one-distinct true x xs e h = h
with_one-distinct false x xs e h = (e, h)

extended-distinct : (terms : List Term) (xs : List ℕ) → Distinct xs → Distinct (extended xs terms)
extended-distinct [] xs h = h
extended-distinct (term ∷ terms) xs h = extended-distinct terms (with_one (has xs term.variable) term.variable xs) (with_one-distinct (has xs term.variable) term.variable xs refl h)

with_one-has : (b : Bool) (x y : ℕ) (xs : List ℕ) → has xs y ≡ true → has (with_one b x xs) y ≡ true
with_one-has true x y xs h = h
with_one-has false x y xs h = or_second (nat_eq x y) (has xs y) h

with_one-has_it : (b : Bool) (x : ℕ) (xs : List ℕ) → has xs x ≡ b → has (with_one b x xs) x ≡ true
with_one-has_it true x xs e = e
with_one-has_it false x xs e = ap (λ (b : Bool). b || has xs x) (eq-eqb x x refl)

extended-has : (terms : List Term) (xs : List ℕ) (y : ℕ) → has xs y ≡ true → has (extended xs terms) y ≡ true
extended-has [] xs y h = h
extended-has (term ∷ terms) xs y h = extended-has terms (with_one (has xs term.variable) term.variable xs) y (with_one-has (has xs term.variable) term.variable y xs h)

-- each term's variable is among these
abbrev Among : List ℕ → List Term → Type 0
Among xs [] = Unit {0}
Among xs (term ∷ terms) = (has xs term.variable ≡ true) × Among xs terms

extended-among : (terms : List Term) (xs : List ℕ) → Among (extended xs terms) terms
extended-among [] xs = tt
extended-among (term ∷ terms) xs =
    let more = with_one (has xs term.variable) term.variable xs in
    (extended-has terms more term.variable (with_one-has_it (has xs term.variable) term.variable xs refl), extended-among terms more)

with_one-sum : (b : Bool) (words f : ℕ → ℤ) (x : ℕ) (xs : List ℕ) → has xs x ≡ b
    → ((y : ℕ) → has xs y ≡ false → f y ≡ pos 0) → sum_over words f (with_one b x xs) ≡ sum_over words f xs
with_one-sum true words f x xs e h = refl
with_one-sum false words f x xs e h =
    ap (λ (z : ℤ). (z *ℤ words x) +ℤ sum_over words f xs) (h x e) ∙ ap (λ (z : ℤ). z +ℤ sum_over words f xs) (zero-*ℤ (words x)) ∙ +ℤ_idl (sum_over words f xs)

with_one-none : (b : Bool) (f : ℕ → ℤ) (x : ℕ) (xs : List ℕ) → ((y : ℕ) → has xs y ≡ false → f y ≡ pos 0) → (y : ℕ) → has (with_one b x xs) y ≡ false → f y ≡ pos 0
with_one-none true f x xs h y e = h y e
with_one-none false f x xs h y e = h y (or_false (nat_eq x y) (has xs y) e).1

-- variables with factor 0 add nothing
extended-sum : (words f : ℕ → ℤ) (terms : List Term) (xs : List ℕ) → ((y : ℕ) → has xs y ≡ false → f y ≡ pos 0) → sum_over words f (extended xs terms) ≡ sum_over words f xs
extended-sum words f [] xs h = refl
extended-sum words f (term ∷ terms) xs h =
    let b = has xs term.variable in
    extended-sum words f terms (with_one b term.variable xs) (with_one-none b f term.variable xs h) ∙ with_one-sum b words f term.variable xs refl h

-- a sum of terms is the sum over any variables among which its own are
among_sum : (words : ℕ → ℤ) (terms : List Term) (xs : List ℕ) → Distinct xs → Among xs terms → sum_over words (factor_of terms) xs ≡ sum_of words terms
among_sum words [] xs distinct h = sum_over-zero words xs
among_sum words (term ∷ terms) xs distinct h =
    sum_over-plus words (factor_in term) (factor_of terms) xs
    ∙ ap (λ (z : ℤ). z +ℤ sum_over words (factor_of terms) xs) (present words term xs distinct h.0)
    ∙ ap (λ (z : ℤ). (term.factor *ℤ words term.variable) +ℤ z) (among_sum words terms xs distinct h.1)

-- and over any variables beside which all have factor 0
covered : (words : ℕ → ℤ) (terms : List Term) (xs : List ℕ) → Distinct xs
    → ((y : ℕ) → has xs y ≡ false → factor_of terms y ≡ pos 0) → sum_over words (factor_of terms) xs ≡ sum_of words terms
covered words terms xs distinct h =
    sym (extended-sum words (factor_of terms) terms xs h) ∙ among_sum words terms (extended xs terms) (extended-distinct terms xs distinct) (extended-among terms xs)

-- ---- corresponding variables

over_pairs : (words words' f g : ℕ → ℤ) (pairs : List Pair) → EachPair pairs (λ x y. f x ≡ g y) → EachPair pairs (λ x y. words x ≡ words' y)
    → sum_over words f (ones pairs) ≡ sum_over words' g (others pairs)
over_pairs words words' f g [] h k = refl
over_pairs words words' f g (pair ∷ pairs) h k =
    ap (λ (z : ℤ). (z *ℤ words pair.one) +ℤ sum_over words f (ones pairs)) h.0
    ∙ ap (λ (z : ℤ). (g pair.other *ℤ z) +ℤ sum_over words f (ones pairs)) k.0
    ∙ ap (λ (z : ℤ). (g pair.other *ℤ words' pair.other) +ℤ z) (over_pairs words words' f g pairs h.1 k.1)

-- forms that are alike have one value, where corresponding variables have the same words
pub value_alike : (pairs : List Pair) (words words' : ℕ → ℤ) (f g : Form) → OneToOne pairs
    → EachPair pairs (λ x y. words x ≡ words' y) → FormsAlike pairs f g → form_number words f ≈ form_number words' g
value_alike pairs words words' f g distinct same h =
    let sums : sum_of words f.terms ≡ sum_of words' g.terms =
    sym (covered words f.terms (ones pairs) (distinct_from (ones pairs) distinct.ones_differ) (λ x e. h.no_more x (sym (has_is (ones pairs) x) ∙ e)))
    ∙ over_pairs words words' (factor_of f.terms) (factor_of g.terms) pairs h.factors same
    ∙ covered words' g.terms (others pairs) (distinct_from (others pairs) distinct.others_differ) (λ y e. h.no_others y (sym (has_is (others pairs) y) ∙ e)) in
    ap (λ (z : ℤ). int_wrap w32 (z +ℤ f.constant)) sums ∙ ap (λ (z : ℤ). int_wrap w32 (sum_of words' g.terms +ℤ z)) h.constants

-- forms that are alike mean the same
pub means_alike : (pairs : List Pair) (words words' : ℕ → ℤ) (f g : Form) → OneToOne pairs → EachPair pairs (λ x y. words x ≡ words' y) → FormsAlike pairs f g → (value : ℤ)
    → Means words f value → Means words' g value
means_alike pairs words words' f g distinct same h value m = by_terms f.terms g.terms f.constant g.constant h.both_terms h.constants (value_alike pairs words words' f g distinct same h) m
  where
    by_terms : (ts us : List Term) (c d : ℤ) → has_terms ts ≡ has_terms us → c ≡ d
        → (sum_of words ts +ℤ c) ≈ (sum_of words' us +ℤ d) → says words ts c value → says words' us d value
    by_terms [] [] c d both e w m = m ∙ e
    by_terms (t ∷ ts) (u ∷ us) c d both e w m = m ∙ w
    by_terms [] (u ∷ us) c d both e w m = absurd (cc)
    by_terms (t ∷ ts) [] c d both e w m = absurd (cc)

-- the words that the other variables have: those of the variables to which they correspond
abbrev pub other_words : List Pair → (ℕ → ℤ) → ℕ → ℤ
other_words [] words y = pos 0
other_words (pair ∷ pairs) words y = if nat_eq y pair.other then words pair.one else other_words pairs words y

skipped : (words g : ℕ → ℤ) (o : ℕ) (k : ℤ) (pairs : List Pair) → has (others pairs) o ≡ false → EachPair pairs (λ x y. words x ≡ g y)
    → EachPair pairs (λ x y. words x ≡ (if nat_eq y o then k else g y))
skipped words g o k [] h same = tt
skipped words g o k (pair ∷ pairs) h same =
    (skip_one (nat_eq pair.other o) (has (others pairs) o) k (words pair.one) (g pair.other) h same.0, skipped words g o k pairs (skip_rest (nat_eq pair.other o) (has (others pairs) o) h) same.1)
  where
    skip_one : (b c : Bool) (k u v : ℤ) → (b || c) ≡ false → u ≡ v → u ≡ (if b then k else v)
    skip_one true c k u v h p = absurd (cc)
    skip_one false c k u v h p = p

    skip_rest : (b c : Bool) → (b || c) ≡ false → c ≡ false
    skip_rest true c h = absurd (cc)
    skip_rest false c h = h

pub other_words_same : (pairs : List Pair) (words : ℕ → ℤ) → Distinct (others pairs) → EachPair pairs (λ x y. words x ≡ other_words pairs words y)
other_words_same [] words distinct = tt
other_words_same (pair ∷ pairs) words distinct = (
  ap (λ (b : Bool). if b then words pair.one else other_words pairs words pair.other) (sym (eq-eqb pair.other pair.other refl)),
  skipped words (other_words pairs words) pair.other (words pair.one) pairs distinct.0 (other_words_same pairs words distinct.1),
)
