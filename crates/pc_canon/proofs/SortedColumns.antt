-- Columns that are sorted are those that are put in order one by one.
use Rattle.std.proofs.Common.{◌≡◌, ℕ, zero, suc, ◌+◌, ◌≤◌, List, [], ◌∷◌, length, take, refl, sym, ◌∙◌, ap, subst, arith}
use Rattle.std.specs.Prelude.{ℤ, Bool, true, false, if◌then◌else◌, slice_index_or}
use Rattle.std.specs.Cmp.{IsStrictWeakOrder}
use Rattle.std.specs.List.{AllByRecursion, sum_by, filter}
use Rattle.std.specs.List.Sorted.{IsPermutation, IsSortedBy}
use Rattle.std.proofs.Math.Seq.{take-length}
use Rattle.std.proofs.lemmas.List.Sorted.{sum_by-IsPermutation}
use Rattle.std.proofs.lemmas.List.Sums.{sum_by-cons, sum_by_more}
use Rattle.pc_canon.specs.Canonical.{stands_before, with_column, with_occurring, columns_below}
use Rattle.pc_canon.specs.models.Gathered.{AreInOrder, column_in, occurs}
use Rattle.pc_canon.proofs.Sorting.{before_one_way, before_tie, none_before, all_behind, below_in_order}

-- neighbours in order are enough
order_from_neighbours : (columns : List (List ℤ)) → IsSortedBy stands_before columns → AreInOrder columns
order_from_neighbours [] up = tt
order_from_neighbours (x ∷ []) up = (tt, tt)
order_from_neighbours (x ∷ y ∷ ys) up =
    let next : stands_before y x ≡ false = up 0 x (omega arith) (omega arith) in
    let rest = order_from_neighbours (y ∷ ys) (λ k d low high. (let one : suc k + 1 ≡ suc (k + 1) = omega arith in
    subst (λ (n : ℕ). stands_before (slice_index_or (x ∷ y ∷ ys) n d) (slice_index_or (y ∷ ys) k d) ≡ false) one
    (up (suc k) d (omega arith) (omega (arith, high))))) in
    ((next, all_behind x y ys next rest.0), rest)

-- what a sort asks of a comparison
pub before_orders : IsStrictWeakOrder stands_before
before_orders = record { one_way = before_one_way; chain = λ x y z h k. none_before z y x h k }

-- ---- columns in order are told by how often each stands there

-- no column stands before itself
before_itself : (y : List ℤ) → stands_before y y ≡ false
before_itself y = by (stands_before y y) refl
  where
    by : (b : Bool) → stands_before y y ≡ b → stands_before y y ≡ false
    by true e = before_one_way y y e
    by false e = e

-- the same columns, each as often: whatever is counted of each, the sums are equal
abbrev SameColumns : List (List ℤ) → List (List ℤ) → Type 0
SameColumns xs ys = (f : List ℤ → ℕ) → sum_by f xs ≡ sum_by f ys

-- whether a column stands before another, as a number
abbrev before_count : List ℤ → List ℤ → ℕ
before_count y c = if stands_before c y then 1 else 0

-- where none stands before a column, the sum is 0
none_counted : (y : List ℤ) (columns : List (List ℤ)) → AllByRecursion (λ c. stands_before c y ≡ false) columns → sum_by (before_count y) columns ≡ 0
none_counted y [] all = refl
none_counted y (c ∷ columns) all =
    sum_by-cons (before_count y) c columns ∙ (λ i. (if all.0 i then 1 else 0) + none_counted y columns all.1 i)

-- and what counts 0 does not stand before it
not_counted : (b : Bool) (n : ℕ) → n ≡ (if b then 1 else 0) → n ≡ 0 → b ≡ false
not_counted true n is e = absurd (omega (arith, is, e))
not_counted false n is e = refl

-- the first of columns in order stands behind none of the same columns
none_ahead : (x y : List ℤ) (xs ys : List (List ℤ)) → AreInOrder (y ∷ ys) → SameColumns (x ∷ xs) (y ∷ ys) → stands_before x y ≡ false
none_ahead x y xs ys order same =
    let none : sum_by (before_count y) (y ∷ ys) ≡ 0 = none_counted y (y ∷ ys) (before_itself y, order.0) in
    let parts = sum_by-cons (before_count y) x xs in
    not_counted (stands_before x y) (before_count y x) refl (omega (arith, parts, same (before_count y), none))

-- columns in order are equal where each stands in both as often
same_in_order : (xs ys : List (List ℤ)) → AreInOrder xs → AreInOrder ys → SameColumns xs ys → xs ≡ ys
same_in_order [] [] p q same = refl
same_in_order [] (y ∷ ys) p q same = absurd (omega (arith, same (λ _. 1), sum_by-cons (λ _. 1) y ys))
same_in_order (x ∷ xs) [] p q same = absurd (omega (arith, same (λ _. 1), sum_by-cons (λ _. 1) x xs))
same_in_order (x ∷ xs) (y ∷ ys) p q same =
    let is : x ≡ y = before_tie x y (none_ahead x y xs ys q same) (none_ahead y x ys xs p (λ f. sym (same f))) in
    let rest = same_in_order xs ys p.1 q.1 (λ f.
    let one = sum_by-cons f x xs in
    let other = sum_by-cons f y ys in
    let heads = ap f is in
    omega (arith, same f, one, other, heads)) in
    (λ i. is i ∷ rest i)

-- ---- what is counted of columns that are put in one by one

-- what a column counts, unless it is empty
abbrev counted : (List ℤ → ℕ) → List ℤ → ℕ
counted f [] = 0
counted f (z ∷ zs) = f (z ∷ zs)

-- a column that is put in counts once more
with_column-sum : (f : List ℤ → ℕ) (one : List ℤ) (columns : List (List ℤ)) → sum_by f (with_column one columns) ≡ f one + sum_by f columns
with_column-sum f one [] = sum_by-cons f one []
with_column-sum f one (other ∷ others) = by (stands_before other one) (with_column-sum f one others)
  where
    by : (b : Bool) → sum_by f (with_column one others) ≡ f one + sum_by f others
        → sum_by f (if b then other ∷ with_column one others else one ∷ other ∷ others) ≡ f one + sum_by f (other ∷ others)
    by true rest =
        let front = sum_by-cons f other (with_column one others) in
        let behind = sum_by-cons f other others in
        omega (arith, front, behind, rest)
    by false rest = sum_by-cons f one (other ∷ others)

-- the same, unless it is empty
with_occurring-sum : (f : List ℤ → ℕ) (one : List ℤ) (columns : List (List ℤ)) → sum_by f (with_occurring one columns) ≡ counted f one + sum_by f columns
with_occurring-sum f [] columns = omega arith
with_occurring-sum f (z ∷ zs) columns = with_column-sum f (z ∷ zs) columns

-- what is counted of the columns that are not empty
filter-sum : (f : List ℤ → ℕ) (columns : List (List ℤ)) → sum_by f (filter occurs columns) ≡ sum_by (counted f) columns
filter-sum f [] = refl
filter-sum f ([] ∷ columns) = filter-sum f columns
filter-sum f ((z ∷ zs) ∷ columns) =
    sum_by-cons f (z ∷ zs) (filter occurs columns) ∙ ap (λ (n : ℕ). f (z ∷ zs) + n) (filter-sum f columns) ∙ sym (sum_by-cons (counted f) (z ∷ zs) columns)

-- what is counted of the first columns, put in one by one
below-sum : (f : List ℤ → ℕ) (columns : List (List ℤ)) (n : ℕ) → n ≤ length columns
    → sum_by f (columns_below (column_in columns) n) ≡ sum_by (counted f) (take n columns)
below-sum f columns zero le = refl
below-sum f columns (suc n) le =
    let next : n + 1 ≡ suc n = omega arith in
    let last = sum_by_more (counted f) columns n [] (omega (arith, le)) in
    let before = below-sum f columns n (omega (arith, le)) in
    let more = with_occurring-sum f (column_in columns n) (columns_below (column_in columns) n) in
    let longer = ap (λ (m : ℕ). sum_by (counted f) (take m columns)) next in
    omega (arith, last, before, more, longer)

-- the columns that are not empty, sorted, are those that are put in one by one
pub sorted_below : (columns occurring sorted : List (List ℤ)) → occurring ≡ filter occurs columns → IsPermutation occurring sorted → IsSortedBy stands_before sorted
    → sorted ≡ columns_below (column_in columns) (length columns)
sorted_below columns occurring sorted are moved up =
    same_in_order sorted (columns_below (column_in columns) (length columns)) (order_from_neighbours sorted up) (below_in_order (column_in columns) (length columns)) (λ f.
    sum_by-IsPermutation f occurring sorted moved ∙ ap (sum_by f) are ∙ filter-sum f columns
    ∙ ap (sum_by (counted f)) (sym (take-length columns)) ∙ sym (below-sum f columns (length columns) (omega arith)))
