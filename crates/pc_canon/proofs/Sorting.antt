-- Columns in order: the order in which they are put in does not show.
use Rattle.std.proofs.Common.{◌≡◌, ℕ, zero, suc, ◌<◌, ◌≤◌, List, [], ◌∷◌, ◌⊎◌, inl, inr, refl, sym, ◌∙◌, ap, subst, arith}
use Rattle.std.specs.Prelude.{ℤ, ◌<ℤ◌, Bool, true, false, ◌||◌, if◌then◌else◌, nat_eq, map}
use Rattle.std.specs.declared.cmp.Ordering.{Ordering}
use Rattle.std.specs.declared.cmp.Ordering.TheVariants.{Less, Equal, Greater}
use Rattle.std.specs.Cmp.{IsTotalOrder, int_cmp_total, int_ranks}
use Rattle.std.specs.Cmp.Lexicographic.{slice_cmp, lists_total}
use Rattle.std.specs.Ordering.{int_cmp, is_lt, ordering_reverse, ordering_then, MatchOrdering}
use Rattle.std.proofs.lemmas.Bool.{eqb-true, eq-eqb}
use Rattle.pc_word.proofs.Truth.{or_false, or_made_false}
use Rattle.std.specs.List.{AllByRecursion}
use Rattle.pc_canon.specs.Canonical.{stands_before, with_column, with_occurring, columns_below}
use Rattle.pc_canon.specs.models.Gathered.{AreInOrder}
use Rattle.pc_canon.proofs.Membership.{has, Distinct}

-- ---- the order of columns

abbrev ranked : List ℤ → List ℤ → Ordering
ranked one other = slice_cmp int_cmp one other

ranked_total : IsTotalOrder ranked
ranked_total = lists_total int_cmp_total

is_less : (o : Ordering) → is_lt o ≡ true → o ≡ Less
is_less Less e = refl
is_less Equal e = absurd (cc)
is_less Greater e = absurd (cc)

not_both : (o : Ordering) → o ≡ Less → is_lt (ordering_reverse o) ≡ false
not_both o e = ap (λ (p : Ordering). is_lt (ordering_reverse p)) e

pub before_one_way : (x y : List ℤ) → stands_before x y ≡ true → stands_before y x ≡ false
before_one_way x y h = ap is_lt (ranked_total.antisymm x y) ∙ not_both (ranked y x) (is_less (ranked y x) h)

before_chain : (x y z : List ℤ) → stands_before x y ≡ true → stands_before y z ≡ true → stands_before x z ≡ true
before_chain x y z h k = ap is_lt (ranked_total.trans z y x (is_less (ranked z y) k) (is_less (ranked y x) h))

equal_number : (x y : ℤ) → int_cmp x y ≡ Equal → x ≡ y
equal_number x y e = subst (λ (o : Ordering). MatchOrdering o (x <ℤ y) (x ≡ y) (y <ℤ x)) e (int_ranks x y)

both_equal : (o p : Ordering) → ordering_then o p ≡ Equal → (o ≡ Equal) × (p ≡ Equal)
both_equal Equal p e = (refl, e)
both_equal Less p e = absurd (cc)
both_equal Greater p e = absurd (cc)

ranked_equal : (xs ys : List ℤ) → ranked xs ys ≡ Equal → xs ≡ ys
ranked_equal [] [] e = refl
ranked_equal (x ∷ xs) (y ∷ ys) e =
    let both = both_equal (int_cmp x y) (ranked xs ys) e in
    (λ i. equal_number x y both.0 i ∷ ranked_equal xs ys both.1 i)
ranked_equal [] (y ∷ ys) e = absurd (cc)
ranked_equal (x ∷ xs) [] e = absurd (cc)

neither_less : (o : Ordering) → is_lt o ≡ false → is_lt (ordering_reverse o) ≡ false → o ≡ Equal
neither_less Equal h k = refl
neither_less Less h k = absurd (cc)
neither_less Greater h k = absurd (cc)

-- of two columns one stands before the other, or they are equal
pub before_tie : (x y : List ℤ) → stands_before x y ≡ false → stands_before y x ≡ false → x ≡ y
before_tie x y h k =
    ranked_equal x y (neither_less (ranked x y) k (ap is_lt (sym (ranked_total.antisymm y x)) ∙ h))

before_past : (a b y : List ℤ) → stands_before y a ≡ true → stands_before y b ≡ false → stands_before b a ≡ true
before_past a b y h k = by (stands_before b y) refl
  where
    by : (t : Bool) → stands_before b y ≡ t → stands_before b a ≡ true
    by true e = before_chain b y a e h
    by false e = ap (λ (z : List ℤ). stands_before z a) (before_tie b y e k) ∙ h

-- ---- columns stay in order

pub none_before : (x y z : List ℤ) → stands_before z y ≡ false → stands_before y x ≡ false → stands_before z x ≡ false
none_before x y z h k = by (stands_before z x) refl
  where
    by : (b : Bool) → stands_before z x ≡ b → stands_before z x ≡ false
    by true e = let past = before_past x y z e h in absurd (cc)
    by false e = e

all_with : (P : List ℤ → Type 0) (one : List ℤ) (columns : List (List ℤ)) → P one → AllByRecursion P columns → AllByRecursion P (with_column one columns)
all_with P one [] p all = (p, tt)
all_with P one (other ∷ others) p all = by (stands_before other one) (all_with P one others p all.1)
  where
    by : (b : Bool) → AllByRecursion P (with_column one others) → AllByRecursion P (if b then other ∷ with_column one others else one ∷ other ∷ others)
    by true rest = (all.0, rest)
    by false rest = (p, all)

pub all_behind : (one other : List ℤ) (columns : List (List ℤ)) → stands_before other one ≡ false → AllByRecursion (λ column. stands_before column other ≡ false) columns
    → AllByRecursion (λ column. stands_before column one ≡ false) columns
all_behind one other [] h all = tt
all_behind one other (column ∷ columns) h all = (none_before one other column all.0 h, all_behind one other columns h all.1)

one_more_in_order : (one : List ℤ) (columns : List (List ℤ)) → AreInOrder columns → AreInOrder (with_column one columns)
one_more_in_order one [] order = (tt, tt)
one_more_in_order one (other ∷ others) order = by (stands_before other one) refl (one_more_in_order one others order.1)
  where
    by : (b : Bool) → stands_before other one ≡ b → AreInOrder (with_column one others) → AreInOrder (if b then other ∷ with_column one others else one ∷ other ∷ others)
    by true e rest = (all_with (λ column. stands_before column other ≡ false) one others (before_one_way other one e) order.0, rest)
    by false e rest = ((e, all_behind one other others e order.0), order)

occurring_in_order : (one : List ℤ) (columns : List (List ℤ)) → AreInOrder columns → AreInOrder (with_occurring one columns)
occurring_in_order [] columns order = order
occurring_in_order (z ∷ zs) columns order = one_more_in_order (z ∷ zs) columns order

-- columns that were put in order one by one are in order
pub below_in_order : (column_of : ℕ → List ℤ) (count : ℕ) → AreInOrder (columns_below column_of count)
below_in_order column_of zero = tt
below_in_order column_of (suc x) = occurring_in_order (column_of x) (columns_below column_of x) (below_in_order column_of x)

-- ---- two columns are put in

chosen_true : {A : Type 0} (b : Bool) (x y : A) → b ≡ true → (if b then x else y) ≡ x
chosen_true true x y e = refl
chosen_true false x y e = absurd (cc)

chosen_false : {A : Type 0} (b : Bool) (x y : A) → b ≡ false → (if b then x else y) ≡ y
chosen_false true x y e = absurd (cc)
chosen_false false x y e = refl

goes_on : (a y : List ℤ) (ys : List (List ℤ)) → stands_before y a ≡ true → with_column a (y ∷ ys) ≡ y ∷ with_column a ys
goes_on a y ys e = chosen_true (stands_before y a) (y ∷ with_column a ys) (a ∷ y ∷ ys) e

stays : (a y : List ℤ) (ys : List (List ℤ)) → stands_before y a ≡ false → with_column a (y ∷ ys) ≡ a ∷ y ∷ ys
stays a y ys e = chosen_false (stands_before y a) (y ∷ with_column a ys) (a ∷ y ∷ ys) e

-- at the head of a list before which both stand
at_head : (a b : List ℤ) (ys : List (List ℤ)) → with_column a ys ≡ a ∷ ys → with_column b ys ≡ b ∷ ys
    → with_column a (b ∷ ys) ≡ with_column b (a ∷ ys)
at_head a b ys p q = by (stands_before b a) (stands_before a b) refl refl
  where
    by : (s t : Bool) → stands_before b a ≡ s → stands_before a b ≡ t → with_column a (b ∷ ys) ≡ with_column b (a ∷ ys)
    by true true e f = let k : stands_before a b ≡ false = before_one_way b a e in absurd (cc)
    by true false e f = goes_on a b ys e ∙ ap (λ (l : List (List ℤ)). b ∷ l) p ∙ sym (stays b a ys f)
    by false true e f = stays a b ys e ∙ ap (λ (l : List (List ℤ)). a ∷ l) (sym q) ∙ sym (goes_on b a ys f)
    by false false e f = ap (λ (z : List ℤ). with_column a (z ∷ ys)) (before_tie b a e f) ∙ ap (λ (z : List ℤ). with_column z (a ∷ ys)) (before_tie a b f e)

with_column-swap : (a b : List ℤ) (ys : List (List ℤ)) → with_column a (with_column b ys) ≡ with_column b (with_column a ys)
with_column-swap a b [] = at_head a b [] refl refl
with_column-swap a b (y ∷ ys) = by (stands_before y a) (stands_before y b) refl refl (with_column-swap a b ys)
  where
    by : (s t : Bool) → stands_before y a ≡ s → stands_before y b ≡ t → with_column a (with_column b ys) ≡ with_column b (with_column a ys)
        → with_column a (with_column b (y ∷ ys)) ≡ with_column b (with_column a (y ∷ ys))
    by true true e f h =
        ap (with_column a) (goes_on b y ys f) ∙ goes_on a y (with_column b ys) e ∙ ap (λ (l : List (List ℤ)). y ∷ l) h
        ∙ sym (goes_on b y (with_column a ys) f) ∙ ap (with_column b) (sym (goes_on a y ys e))
    by true false e f h =
        ap (with_column a) (stays b y ys f) ∙ goes_on a b (y ∷ ys) (before_past a b y e f)
        ∙ ap (λ (l : List (List ℤ)). b ∷ l) (goes_on a y ys e)
        ∙ sym (stays b y (with_column a ys) f) ∙ ap (with_column b) (sym (goes_on a y ys e))
    by false true e f h =
        ap (with_column a) (goes_on b y ys f) ∙ stays a y (with_column b ys) e
        ∙ ap (λ (l : List (List ℤ)). a ∷ l) (sym (goes_on b y ys f))
        ∙ sym (goes_on b a (y ∷ ys) (before_past b a y f e)) ∙ ap (with_column b) (sym (stays a y ys e))
    by false false e f h =
        ap (with_column a) (stays b y ys f) ∙ at_head a b (y ∷ ys) (stays a y ys e) (stays b y ys f) ∙ ap (with_column b) (sym (stays a y ys e))

with_occurring-swap : (a b : List ℤ) (ys : List (List ℤ)) → with_occurring a (with_occurring b ys) ≡ with_occurring b (with_occurring a ys)
with_occurring-swap [] b ys = refl
with_occurring-swap (x ∷ xs) [] ys = refl
with_occurring-swap (x ∷ xs) (z ∷ zs) ys = with_column-swap (x ∷ xs) (z ∷ zs) ys

-- ---- the columns of some variables

module _ (f : ℕ → List ℤ) where
  -- the columns of these variables that are not empty, in order
  abbrev pub gathered : List ℕ → List (List ℤ)
  gathered [] = []
  gathered (x ∷ xs) = with_occurring (f x) (gathered xs)

  -- a list without the first of a number
  abbrev without : ℕ → List ℕ → List ℕ
  without x [] = []
  without x (y ∷ ys) = if nat_eq y x then ys else y ∷ without x ys

  pulled : (x : ℕ) (ys : List ℕ) → has ys x ≡ true → gathered ys ≡ with_occurring (f x) (gathered (without x ys))
  pulled x [] h = absurd (cc)
  pulled x (y ∷ ys) h = by (nat_eq y x) refl h (pulled x ys)
    where
      by : (b : Bool) → nat_eq y x ≡ b → (b || has ys x) ≡ true → (has ys x ≡ true → gathered ys ≡ with_occurring (f x) (gathered (without x ys)))
          → with_occurring (f y) (gathered ys) ≡ with_occurring (f x) (gathered (if b then ys else y ∷ without x ys))
      by true e h next = ap (λ (z : ℕ). with_occurring (f z) (gathered ys)) (eqb-true y x e)
      by false e h next = ap (with_occurring (f y)) (next h) ∙ with_occurring-swap (f y) (f x) (gathered (without x ys))

  without-other : (x z : ℕ) (ys : List ℕ) → nat_eq x z ≡ false → has (without x ys) z ≡ has ys z
  without-other x z [] e = refl
  without-other x z (y ∷ ys) e = by (nat_eq y x) refl (without-other x z ys e)
    where
      by : (b : Bool) → nat_eq y x ≡ b → has (without x ys) z ≡ has ys z → has (if b then ys else y ∷ without x ys) z ≡ (nat_eq y z || has ys z)
      by true k h = ap (λ (c : Bool). c || has ys z) (sym e ∙ ap (λ (u : ℕ). nat_eq u z) (sym (eqb-true y x k)))
      by false k h = ap (λ (c : Bool). nat_eq y z || c) h

  without-it : (x : ℕ) (ys : List ℕ) → Distinct ys → has (without x ys) x ≡ false
  without-it x [] d = refl
  without-it x (y ∷ ys) d = by (nat_eq y x) refl (without-it x ys d.1)
    where
      by : (b : Bool) → nat_eq y x ≡ b → has (without x ys) x ≡ false → has (if b then ys else y ∷ without x ys) x ≡ false
      by true k h = subst (λ (u : ℕ). has ys u ≡ false) (eqb-true y x k) d.0
      by false k h = or_made_false (nat_eq y x) (has (without x ys) x) k h

  without-lacks : (x z : ℕ) (ys : List ℕ) → has ys z ≡ false → has (without x ys) z ≡ false
  without-lacks x z [] h = h
  without-lacks x z (y ∷ ys) h = by (nat_eq y x) (or_false (nat_eq y z) (has ys z) h) (without-lacks x z ys)
    where
      by : (b : Bool) → (nat_eq y z ≡ false) × (has ys z ≡ false) → (has ys z ≡ false → has (without x ys) z ≡ false)
          → has (if b then ys else y ∷ without x ys) z ≡ false
      by true p next = p.1
      by false p next = or_made_false (nat_eq y z) (has (without x ys) z) p.0 (next p.1)

  without-distinct : (x : ℕ) (ys : List ℕ) → Distinct ys → Distinct (without x ys)
  without-distinct x [] d = tt
  without-distinct x (y ∷ ys) d = by (nat_eq y x) (without-distinct x ys d.1)
    where
      by : (b : Bool) → Distinct (without x ys) → Distinct (if b then ys else y ∷ without x ys)
      by true k = d.1
      by false k = (without-lacks x y ys d.0, k)

  -- two lists have the same of the variables that occur
  abbrev pub OccurAlike : List ℕ → List ℕ → Type 0
  OccurAlike xs ys = (z : ℕ) → (f z ≡ [] → ⊥) → has xs z ≡ has ys z

  none_occurs : (ys : List ℕ) → OccurAlike [] ys → gathered ys ≡ []
  none_occurs [] h = refl
  none_occurs (y ∷ ys) h = by (f y) refl (none_occurs ys (λ z occurs. sym (or_false (nat_eq y z) (has ys z) (sym (h z occurs))).1))
    where
      by : (c : List ℤ) → f y ≡ c → gathered ys ≡ [] → with_occurring c (gathered ys) ≡ []
      by [] e k = k
      by (u ∷ us) e k =
          let there : nat_eq y y ≡ true = eq-eqb y y refl in
          let no : nat_eq y y ≡ false = (or_false (nat_eq y y) (has ys y) (sym (h y (λ none. absurd (clash u us (sym none ∙ e)))))).0 in
          absurd (cc)
        where
          clash : (v : ℤ) (vs : List ℤ) → [] ≡ v ∷ vs → ⊥
          clash v vs e = cc

  either_way : (b : Bool) → (b ≡ true) ⊎ (b ≡ false)
  either_way true = inl refl
  either_way false = inr refl

  -- lists with the same of the variables that occur have the same columns in order
  pub gathered-same : (xs ys : List ℕ) → Distinct xs → Distinct ys → OccurAlike xs ys → gathered xs ≡ gathered ys
  gathered-same [] ys d k h = sym (none_occurs ys h)
  gathered-same (x ∷ xs) ys d k h =
      by (f x) refl (gathered-same xs ys d.1 k) (gathered-same xs (without x ys) d.1 (without-distinct x ys k))
    where
      by : (c : List ℤ) → f x ≡ c → (OccurAlike xs ys → gathered xs ≡ gathered ys) → (OccurAlike xs (without x ys) → gathered xs ≡ gathered (without x ys))
          → with_occurring c (gathered xs) ≡ gathered ys
      by [] e same rest =
          same (λ z occurs. elim (either_way (nat_eq x z)) [
            | inl is ↦ absurd (occurs (ap f (sym (eqb-true x z is)) ∙ e))
            | inr other ↦ ap (λ (b : Bool). b || has xs z) (sym other) ∙ h z occurs
          ])
      by (u ∷ us) e same rest =
          ap (λ (c : List ℤ). with_occurring c (gathered xs)) (sym e)
          ∙ ap (with_occurring (f x)) (rest (λ z occurs. elim (either_way (nat_eq x z)) [
            | inl is ↦ subst (λ (v : ℕ). has xs v ≡ has (without x ys) v) (eqb-true x z is) (d.0 ∙ sym (without-it x ys k))
            | inr other ↦ ap (λ (b : Bool). b || has xs z) (sym other) ∙ h z occurs ∙ sym (without-other x z ys other)
          ]))
          ∙ sym (pulled x ys (sym (h x (λ none. clash u us (sym none ∙ e))) ∙ ap (λ (b : Bool). b || has xs x) (eq-eqb x x refl)))
        where
          clash : (v : ℤ) (vs : List ℤ) → [] ≡ v ∷ vs → ⊥
          clash v vs e = cc

  -- ---- all variables below a number

  abbrev pub down_from : ℕ → List ℕ
  down_from zero = []
  down_from (suc n) = n ∷ down_from n

  pub below_gathered : (n : ℕ) → columns_below f n ≡ gathered (down_from n)
  below_gathered zero = refl
  below_gathered (suc n) = ap (with_occurring (f n)) (below_gathered n)

  unlike : (n x : ℕ) → n < x → nat_eq n x ≡ false
  unlike n x h = grind arith

  unlike_above : (n x : ℕ) → x < n → nat_eq n x ≡ false
  unlike_above n x h = grind arith

  pub down_from-lacks : (n x : ℕ) → n ≤ x → has (down_from n) x ≡ false
  down_from-lacks zero x h = refl
  down_from-lacks (suc n) x h = or_made_false (nat_eq n x) (has (down_from n) x) (unlike n x (omega (arith, h))) (down_from-lacks n x (omega (arith, h)))

  pub down_from-has : (n x : ℕ) → x < n → has (down_from n) x ≡ true
  down_from-has zero x h = absurd (omega (arith, h))
  down_from-has (suc n) x h = by (nat_eq n x) refl (down_from-has n x)
    where
      unequal : nat_eq n x ≡ false → n ≡ x → ⊥
      unequal e same = let k : nat_eq n x ≡ true = eq-eqb n x same in cc

      by : (b : Bool) → nat_eq n x ≡ b → (x < n → has (down_from n) x ≡ true) → (b || has (down_from n) x) ≡ true
      by true e next = refl
      by false e next = let apart = unequal e in next (omega (arith, h, apart))

  pub down_from-distinct : (n : ℕ) → Distinct (down_from n)
  down_from-distinct zero = tt
  down_from-distinct (suc n) = (down_from-lacks n n (omega arith), down_from-distinct n)

  -- ---- variables in the order of their columns

  -- a variable among others in the order of their columns
  abbrev put : ℕ → List ℕ → List ℕ
  put x [] = x ∷ []
  put x (y ∷ ys) = if stands_before (f y) (f x) then y ∷ put x ys else x ∷ y ∷ ys

  abbrev put_occurring : List ℤ → ℕ → List ℕ → List ℕ
  put_occurring [] x ys = ys
  put_occurring (z ∷ zs) x ys = put x ys

  -- the variables below a number that occur, in the order of their columns
  abbrev pub ordered : ℕ → List ℕ
  ordered zero = []
  ordered (suc x) = put_occurring (f x) x (ordered x)

  put-columns : (x : ℕ) (ys : List ℕ) → map f (put x ys) ≡ with_column (f x) (map f ys)
  put-columns x [] = refl
  put-columns x (y ∷ ys) = by (stands_before (f y) (f x)) (put-columns x ys)
    where
      by : (b : Bool) → map f (put x ys) ≡ with_column (f x) (map f ys)
          → map f (if b then y ∷ put x ys else x ∷ y ∷ ys) ≡ (if b then f y ∷ with_column (f x) (map f ys) else f x ∷ f y ∷ map f ys)
      by true h = ap (λ (l : List (List ℤ)). f y ∷ l) h
      by false h = refl

  pub ordered-columns : (n : ℕ) → map f (ordered n) ≡ columns_below f n
  ordered-columns zero = refl
  ordered-columns (suc x) = by (f x) refl (ordered-columns x)
    where
      by : (c : List ℤ) → f x ≡ c → map f (ordered x) ≡ columns_below f x → map f (put_occurring c x (ordered x)) ≡ with_occurring c (columns_below f x)
      by [] e h = h
      by (u ∷ us) e h = put-columns x (ordered x) ∙ ap (λ (c : List ℤ). with_column c (map f (ordered x))) e ∙ ap (with_column (u ∷ us)) h

  or_swap : (a b c : Bool) → (a || (b || c)) ≡ (b || (a || c))
  or_swap true true c = refl
  or_swap true false c = refl
  or_swap false b c = refl

  put-has : (x z : ℕ) (ys : List ℕ) → has (put x ys) z ≡ (nat_eq x z || has ys z)
  put-has x z [] = refl
  put-has x z (y ∷ ys) = by (stands_before (f y) (f x)) (put-has x z ys)
    where
      by : (b : Bool) → has (put x ys) z ≡ (nat_eq x z || has ys z) → has (if b then y ∷ put x ys else x ∷ y ∷ ys) z ≡ (nat_eq x z || (nat_eq y z || has ys z))
      by true h = ap (λ (c : Bool). nat_eq y z || c) h ∙ or_swap (nat_eq y z) (nat_eq x z) (has ys z)
      by false h = refl

  put-distinct : (x : ℕ) (ys : List ℕ) → has ys x ≡ false → Distinct ys → Distinct (put x ys)
  put-distinct x [] h d = (refl, tt)
  put-distinct x (y ∷ ys) h d = by (stands_before (f y) (f x)) (or_false (nat_eq y x) (has ys x) h) (put-distinct x ys)
    where
      other : nat_eq y x ≡ false → nat_eq x y ≡ false
      other e = grind arith

      by : (b : Bool) → (nat_eq y x ≡ false) × (has ys x ≡ false) → (has ys x ≡ false → Distinct ys → Distinct (put x ys))
          → Distinct (if b then y ∷ put x ys else x ∷ y ∷ ys)
      by true p next = (put-has x y ys ∙ or_made_false (nat_eq x y) (has ys y) (other p.0) d.0, next p.1 d.1)
      by false p next = (h, d)

  ordered-lacks : (n x : ℕ) → n ≤ x → has (ordered n) x ≡ false
  ordered-lacks zero x h = refl
  ordered-lacks (suc n) x h = by (f n) (ordered-lacks n x (omega (arith, h)))
    where
      by : (c : List ℤ) → has (ordered n) x ≡ false → has (put_occurring c n (ordered n)) x ≡ false
      by [] k = k
      by (u ∷ us) k = put-has n x (ordered n) ∙ or_made_false (nat_eq n x) (has (ordered n) x) (unlike n x (omega (arith, h))) k

  pub ordered-distinct : (n : ℕ) → Distinct (ordered n)
  ordered-distinct zero = tt
  ordered-distinct (suc n) = by (f n) (ordered-distinct n)
    where
      by : (c : List ℤ) → Distinct (ordered n) → Distinct (put_occurring c n (ordered n))
      by [] d = d
      by (u ∷ us) d = put-distinct n (ordered n) (ordered-lacks n n (omega arith)) d

  -- what is not among them does not occur
  pub ordered-all : (n x : ℕ) → x < n → has (ordered n) x ≡ false → f x ≡ []
  ordered-all zero x h k = absurd (omega (arith, h))
  ordered-all (suc n) x h k = by (f n) refl k (ordered-all n x)
    where
      unequal : nat_eq n x ≡ false → n ≡ x → ⊥
      unequal e same = let k : nat_eq n x ≡ true = eq-eqb n x same in cc

      below : nat_eq n x ≡ false → x < n
      below e = let apart = unequal e in omega (arith, h, apart)

      by : (c : List ℤ) → f n ≡ c → has (put_occurring c n (ordered n)) x ≡ false → (x < n → has (ordered n) x ≡ false → f x ≡ []) → f x ≡ []
      by [] e k next = elim (either_way (nat_eq n x)) [
        | inl is ↦ ap f (sym (eqb-true n x is)) ∙ e
        | inr other ↦ next (below other) k
      ]
      by (u ∷ us) e k next =
          let parts = or_false (nat_eq n x) (has (ordered n) x) (sym (put-has n x (ordered n)) ∙ k) in
          next (below parts.0) parts.1
