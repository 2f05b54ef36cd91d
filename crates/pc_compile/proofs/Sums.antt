-- Sums over lists of numbers, and how often a number stands in a list.
use Rattle.std.proofs.Common.{◌≡◌, ◌≢◌, ◌⊎◌, inl, inr, ℕ, zero, suc, ◌+◌, ◌<◌, ◌≤◌, Bool, true, false, List, [], ◌∷◌, ◌++◌, length, Some, refl, ◌∙◌, ap, subst, arith}
use Rattle.std.specs.Prelude.{if◌then◌else◌, nat_eq, nat_lt, slice_get, sum_by}
use Rattle.std.specs.List.{AllByRecursion}
use Rattle.std.proofs.lemmas.List.Sums.{sum_by-cons}
use Rattle.std.proofs.lemmas.Bool.Decides.{nat_tests}
use Rattle.pc_word.proofs.Truth.{decide_le, of_most}
use Rattle.pc_regions.specs.Reachable.{one_if}
use Rattle.pc_regions.proofs.Members.{Has, Once}
use Rattle.pc_word.proofs.Places.{same_number, other_number, own_number, get_front}

-- ---- numbers told apart

pub same_or_not : (x y : ℕ) → (x ≡ y) ⊎ (x ≢ y)
same_or_not x y = told (nat_eq x y) refl
  where
    told : (b : Bool) → nat_eq x y ≡ b → (x ≡ y) ⊎ (x ≢ y)
    told true e = inl (same_number x y e)
    told false e = inr (other_number x y e)

-- a number is itself
pub one_if_same : (x y : ℕ) → x ≡ y → one_if x y ≡ 1
one_if_same x y e = subst (λ (z : ℕ). one_if x z ≡ 1) e (ap (λ (b : Bool). if b then 1 else 0) (own_number x))

-- and no other
pub one_if_other : (x y : ℕ) → x ≢ y → one_if x y ≡ 0
one_if_other x y differ = told (nat_eq x y) refl
  where
    told : (b : Bool) → nat_eq x y ≡ b → one_if x y ≡ 0
    told true e = absurd (differ (same_number x y e))
    told false e = ap (λ (b : Bool). if b then 1 else 0) e

-- ---- sums

-- the sum of what numbers count for
abbrev pub total : (ℕ → ℕ) → List ℕ → ℕ
total f [] = zero
total f (x ∷ xs) = f x + total f xs

pub total_both : (f : ℕ → ℕ) (xs ys : List ℕ) → total f (xs ++ ys) ≡ total f xs + total f ys
total_both f [] ys = omega arith
total_both f (x ∷ xs) ys = more (f x) (total f (xs ++ ys)) (total f xs) (total f ys) (total_both f xs ys)
  where
    more : (a b c d : ℕ) → b ≡ c + d → a + b ≡ a + c + d
    more a b c d e = omega (arith, e)

-- each counts for at most as much
pub total_most : (f g : ℕ → ℕ) (xs : List ℕ) → AllByRecursion (λ x. f x ≤ g x) xs → total f xs ≤ total g xs
total_most f g [] all = omega arith
total_most f g (x ∷ xs) all = more (f x) (g x) (total f xs) (total g xs) all.0 (total_most f g xs all.1)
  where
    more : (a b c d : ℕ) → a ≤ b → c ≤ d → a + c ≤ b + d
    more a b c d h k = omega (arith, h, k)

-- one of them counts for at most the sum
pub total_one : (f : ℕ → ℕ) (xs : List ℕ) (place x : ℕ) → slice_get xs place ≡ Some x → f x ≤ total f xs
total_one f [] place x e = absurd (cc)
total_one f (y ∷ ys) zero x e =
    let same : y ≡ x = (cc) in
    subst (λ (z : ℕ). f z ≤ f y + total f ys) same (more (f y) (total f ys))
  where
    more : (a b : ℕ) → a ≤ a + b
    more a b = omega arith
total_one f (y ∷ ys) (suc place) x e = more (f x) (f y) (total f ys) (total_one f ys place x e)
  where
    more : (a b c : ℕ) → a ≤ c → a ≤ b + c
    more a b c h = omega (arith, h)

-- the same of the sums of the graph's definitions
pub sum_is : (f : ℕ → ℕ) (xs : List ℕ) → sum_by f xs ≡ total f xs
sum_is f [] = refl
sum_is f (x ∷ xs) = sum_by-cons f x xs ∙ ap (λ (n : ℕ). f x + n) (sum_is f xs)

-- two of them count for at most the sum together
pub total_two : (f : ℕ → ℕ) (xs : List ℕ) (one other x y : ℕ) → slice_get xs one ≡ Some x → slice_get xs other ≡ Some y → x ≢ y → f x + f y ≤ total f xs
total_two f [] one other x y p q differ = absurd (cc)
total_two f (z ∷ zs) zero zero x y p q differ = absurd (differ (cc))
total_two f (z ∷ zs) zero (suc other) x y p q differ =
    let same : z ≡ x = (cc) in
    subst (λ (w : ℕ). f w + f y ≤ f z + total f zs) same (more (f z) (f y) (total f zs) (total_one f zs other y q))
  where
    more : (a b c : ℕ) → b ≤ c → a + b ≤ a + c
    more a b c h = omega (arith, h)
total_two f (z ∷ zs) (suc one) zero x y p q differ =
    let same : z ≡ y = (cc) in
    subst (λ (w : ℕ). f x + f w ≤ f z + total f zs) same (more (f z) (f x) (total f zs) (total_one f zs one x p))
  where
    more : (a b c : ℕ) → b ≤ c → b + a ≤ a + c
    more a b c h = omega (arith, h)
total_two f (z ∷ zs) (suc one) (suc other) x y p q differ = more (f x) (f y) (f z) (total f zs) (total_two f zs one other x y p q differ)
  where
    more : (a b c d : ℕ) → a + b ≤ d → a + b ≤ c + d
    more a b c d h = omega (arith, h)

-- ---- how often a number stands in a list

-- so often
abbrev pub count : ℕ → List ℕ → ℕ
count x xs = total (λ y. one_if y x) xs

-- never, or somewhere
pub counted : (x : ℕ) (xs : List ℕ) → (count x xs ≡ 0) ⊎ Has xs x
counted x [] = inl refl
counted x (y ∷ ys) = elim (same_or_not y x) [
  | inl e ↦ inr (0, ap (λ (n : ℕ). Some n) e)
  | inr differ ↦ elim (counted x ys) [
    | inl none ↦ inl (both (one_if y x) (count x ys) (one_if_other y x differ) none)
    | inr has ↦ inr (suc has.0, has.1)
  ]
]
  where
    both : (a b : ℕ) → a ≡ 0 → b ≡ 0 → a + b ≡ 0
    both a b h k = omega (arith, h, k)

-- at most once, where none stands there twice
pub counted_once : (x : ℕ) (xs : List ℕ) → Once xs → count x xs ≤ 1
counted_once x [] once = omega arith
counted_once x (y ∷ ys) once =
    let rest = counted_once x ys (λ one other at p q. let e = once (suc one) (suc other) at p q in omega (arith, e)) in
    elim (same_or_not y x) [
      | inl e ↦ elim (counted x ys) [
        | inl none ↦ first (one_if y x) (count x ys) (one_if_same y x e) none
        | inr has ↦ let twice = once 0 (suc has.0) x (ap (λ (n : ℕ). Some n) e) has.1 in absurd (omega (arith, twice))
      ]
      | inr differ ↦ later (one_if y x) (count x ys) (one_if_other y x differ) rest
    ]
  where
    first : (a b : ℕ) → a ≡ 1 → b ≡ 0 → a + b ≤ 1
    first a b h k = omega (arith, h, k)

    later : (a b : ℕ) → a ≡ 0 → b ≤ 1 → a + b ≤ 1
    later a b h k = omega (arith, h, k)

-- ---- members

pub has_front : (xs ys : List ℕ) (x : ℕ) → Has xs x → Has (xs ++ ys) x
has_front xs ys x has = (has.0, get_front xs ys has.0 x has.1)

pub has_back : (xs ys : List ℕ) (x : ℕ) → Has ys x → Has (xs ++ ys) x
has_back [] ys x has = has
has_back (y ∷ xs) ys x has = let rest = has_back xs ys x has in (suc rest.0, rest.1)

-- what holds of each member holds of each element
pub all_of_members : (P : ℕ → Type 0) (xs : List ℕ) → ((x : ℕ) → Has xs x → P x) → AllByRecursion P xs
all_of_members P [] h = tt
all_of_members P (x ∷ xs) h = (h x (0, refl), all_of_members P xs (λ y has. h y (suc has.0, has.1)))

-- and back
pub member_of_all : (P : ℕ → Type 0) (xs : List ℕ) (x : ℕ) → AllByRecursion P xs → Has xs x → P x
member_of_all P xs x all has = at xs has.0 all has.1
  where
    at : (xs : List ℕ) (place : ℕ) → AllByRecursion P xs → slice_get xs place ≡ Some x → P x
    at [] place all e = absurd (cc)
    at (y ∷ ys) zero all e = let same : y ≡ x = (cc) in subst P same all.0
    at (y ∷ ys) (suc place) all e = at ys place all.1 e

-- ---- numbers below a bound, none of which stands twice, are no more than the bound

-- 1 for a number below a bound, and 0 for others
abbrev below_one : ℕ → ℕ → ℕ
below_one n y = if nat_lt y n then 1 else 0

below_is : (n y : ℕ) → y < n → below_one n y ≡ 1
below_is n y lt = ap (λ (b : Bool). if b then 1 else 0) (passes lt)
  where
    passes : y < n → nat_lt y n ≡ true
    passes h = grind (arith, nat_tests)

below_not : (n y : ℕ) → n ≤ y → below_one n y ≡ 0
below_not n y le = ap (λ (b : Bool). if b then 1 else 0) (of_most y n le)

-- a number below the next bound is below this one, or is it
below_next : (n y : ℕ) → below_one (suc n) y ≡ below_one n y + one_if y n
below_next n y = elim (decide_le (suc y) n) [
  | inl low ↦ sum (below_one (suc n) y) (below_one n y) (one_if y n) 1 0 (below_is (suc n) y (omega (arith, low))) (below_is n y low) (one_if_other y n (λ e. absurd (omega (arith, low, e))))
  | inr high ↦ elim (same_or_not y n) [
    | inl e ↦ sum (below_one (suc n) y) (below_one n y) (one_if y n) 0 1 (below_is (suc n) y (omega (arith, e))) (below_not n y (omega (arith, e))) (one_if_same y n e)
    | inr differ ↦ sum (below_one (suc n) y) (below_one n y) (one_if y n) 0 0 (below_not (suc n) y (above differ high)) (below_not n y (omega (arith, high))) (one_if_other y n differ)
  ]
]
  where
    above : y ≢ n → n < suc y → suc n ≤ y
    above differ high = grind arith

    sum : (a b c p q : ℕ) → a ≡ p + q → b ≡ p → c ≡ q → a ≡ b + c
    sum a b c p q e f g = omega (arith, e, f, g)

total_next : (n : ℕ) (xs : List ℕ) → total (below_one (suc n)) xs ≡ total (below_one n) xs + count n xs
total_next n [] = refl
total_next n (x ∷ xs) =
    more (below_one (suc n) x) (below_one n x) (one_if x n) (total (below_one (suc n)) xs) (total (below_one n) xs) (count n xs) (below_next n x) (total_next n xs)
  where
    more : (a b c p q r : ℕ) → a ≡ b + c → p ≡ q + r → a + p ≡ b + q + (c + r)
    more a b c p q r e f = omega (arith, e, f)

-- so at most n numbers are below n
few_below : (xs : List ℕ) → ((x : ℕ) → count x xs ≤ 1) → (n : ℕ) → total (below_one n) xs ≤ n
few_below xs once zero = none xs
  where
    none : (xs : List ℕ) → total (below_one 0) xs ≤ 0
    none [] = omega arith
    none (x ∷ xs) = more (below_one 0 x) (total (below_one 0) xs) (below_not 0 x (omega arith)) (none xs)
      where
        more : (a b : ℕ) → a ≡ 0 → b ≤ 0 → a + b ≤ 0
        more a b h k = omega (arith, h, k)
few_below xs once (suc n) = more (total (below_one (suc n)) xs) (total (below_one n) xs) (count n xs) (total_next n xs) (few_below xs once n) (once n)
  where
    more : (a b c : ℕ) → a ≡ b + c → b ≤ n → c ≤ 1 → a ≤ suc n
    more a b c e h k = omega (arith, e, h, k)

all_below : (xs : List ℕ) (n : ℕ) → AllByRecursion (λ x. x < n) xs → total (below_one n) xs ≡ length xs
all_below [] n all = refl
all_below (x ∷ xs) n all = more (below_one n x) (total (below_one n) xs) (length xs) (below_is n x all.0) (all_below xs n all.1)
  where
    more : (a b c : ℕ) → a ≡ 1 → b ≡ c → a + b ≡ suc c
    more a b c e f = omega (arith, e, f)

pub no_more : (xs : List ℕ) (n : ℕ) → AllByRecursion (λ x. x < n) xs → ((x : ℕ) → count x xs ≤ 1) → length xs ≤ n
no_more xs n all once = subst (λ (m : ℕ). m ≤ n) (all_below xs n all) (few_below xs once n)
