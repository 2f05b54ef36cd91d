-- Lists with the same members: their sums are equal where nothing stands twice, and they are equal where both rise.
use Rattle.std.proofs.Common.{◌≡◌, ◌≢◌, ◌⊎◌, inl, inr, ℕ, zero, suc, ◌+◌, ◌<◌, ◌≤◌, true, List, [], ◌∷◌, ◌++◌, Some, refl, sym, ◌∙◌, ap, subst, arith}
use Rattle.std.specs.Prelude.{nat_eq, slice_get, slice_index, sum_by}
use Rattle.std.specs.List.{list_any}
use Rattle.std.specs.List.Sorted.{IsStrictlyIncreasing}
use Rattle.std.proofs.lemmas.List.Sums.{sum_by-append, sum_by-cons}
use Rattle.pc_word.proofs.Truth.{or_true, or_first, or_second}
use Rattle.pc_word.proofs.Places.{same_number, own_number}

-- a number stands in a list
abbrev pub Has : List ℕ → ℕ → Type 0
Has xs x = (place : ℕ) × (slice_get xs place ≡ Some x)

-- none stands there twice
abbrev pub Once : List ℕ → Type 0
Once xs = (one other at : ℕ) → slice_get xs one ≡ Some at → slice_get xs other ≡ Some at → one ≡ other

-- ---- sums

-- a list, parted where a number stands
parted : (ys : List ℕ) (place x : ℕ) → slice_get ys place ≡ Some x → (before : List ℕ) × (after : List ℕ) × (ys ≡ before ++ x ∷ after)
parted [] place x e = absurd (cc)
parted (y ∷ ys) zero x e = let same : y ≡ x = (cc) in ([], ys, ap (λ (n : ℕ). n ∷ ys) same)
parted (y ∷ ys) (suc place) x e = let s = parted ys place x e in (y ∷ s.0, s.1, ap (λ (l : List ℕ). y ∷ l) s.2)

-- another number stands in what is left
has_rest : (before after : List ℕ) (x y place : ℕ) → y ≢ x → slice_get (before ++ x ∷ after) place ≡ Some y → Has (before ++ after) y
has_rest [] after x y zero differ e = let same : x ≡ y = (cc) in absurd (differ (sym same))
has_rest [] after x y (suc place) differ e = (place, e)
has_rest (b ∷ before) after x y zero differ e = (0, e)
has_rest (b ∷ before) after x y (suc place) differ e = let rest = has_rest before after x y place differ e in (suc rest.0, rest.1)

once_rest : (x : ℕ) (xs : List ℕ) → Once (x ∷ xs) → Once xs
once_rest x xs once one other at p q = let e = once (suc one) (suc other) at p q in omega (arith, e)

-- what stands in a list in which nothing stands twice sums up to at most what stands in another with these members
sum_within : (f : ℕ → ℕ) (xs ys : List ℕ) → Once xs → ((x : ℕ) → Has xs x → Has ys x) → sum_by f xs ≤ sum_by f ys
sum_within f [] ys once within = omega arith
sum_within f (x ∷ xs) ys once within =
    let there = within x (0, refl) in
    let parts = parted ys there.0 x there.1 in
    let rest = sum_within f xs (parts.0 ++ parts.1) (once_rest x xs once)
    (λ y has. has_rest parts.0 parts.1 x y (within y (suc has.0, has.1)).0 (differs y has)
    (subst (λ (l : List ℕ). slice_get l (within y (suc has.0, has.1)).0 ≡ Some y) parts.2 (within y (suc has.0, has.1)).1)) in
    let whole = ap (sum_by f) parts.2 ∙ sum_by-append f parts.0 (x ∷ parts.1) in
    let first = sum_by-cons f x parts.1 in
    let both = sum_by-append f parts.0 parts.1 in
    let here = sum_by-cons f x xs in
    omega (arith, rest, whole, first, both, here)
  where
    differs : (y : ℕ) → Has xs y → y ≢ x
    differs y has same =
        let first : slice_get (x ∷ xs) 0 ≡ Some y = ap (λ (n : ℕ). Some n) (sym same) in
        let e = once 0 (suc has.0) y first has.1 in
        omega (arith, e)

-- so the sums of two such lists with the same members are equal
pub same_sum : (f : ℕ → ℕ) (xs ys : List ℕ) → Once xs → Once ys → ((x : ℕ) → Has xs x → Has ys x) → ((x : ℕ) → Has ys x → Has xs x) → sum_by f xs ≡ sum_by f ys
same_sum f xs ys one other forth back =
    let low = sum_within f xs ys one forth in
    let high = sum_within f ys xs other back in
    omega (arith, low, high)

-- ---- lists that rise

-- what is after the first rises
rising_rest : (x : ℕ) (xs : List ℕ) → IsStrictlyIncreasing (x ∷ xs) → IsStrictlyIncreasing xs
rising_rest x xs rising k lt =
    let h = rising (suc k) (omega (arith, lt)) in
    let next : suc k + 1 ≡ suc (k + 1) = omega arith in
    subst (λ (n : ℕ). slice_index xs k < slice_index (x ∷ xs) n) next h

-- and is above it
rising_above : (x : ℕ) (xs : List ℕ) → IsStrictlyIncreasing (x ∷ xs) → (y : ℕ) → list_any (nat_eq y) xs ≡ true → x < y
rising_above x [] rising y h = absurd (cc)
rising_above x (z ∷ zs) rising y h =
    let first : x < z = rising 0 (omega arith) in
    elim (or_true (nat_eq y z) (list_any (nat_eq y) zs) h) [
      | inl e ↦ let same = same_number y z e in omega (arith, first, same)
      | inr e ↦ let above = rising_above z zs (rising_rest x (z ∷ zs) rising) y e in omega (arith, first, above)
    ]

-- two lists that rise, with the same members, are equal
pub same_rising : (xs ys : List ℕ) → IsStrictlyIncreasing xs → IsStrictlyIncreasing ys → ((x : ℕ) → list_any (nat_eq x) xs ≡ true → list_any (nat_eq x) ys ≡ true)
    → ((x : ℕ) → list_any (nat_eq x) ys ≡ true → list_any (nat_eq x) xs ≡ true) → xs ≡ ys
same_rising [] [] p q forth back = refl
same_rising [] (y ∷ ys) p q forth back = let never = back y (or_first (nat_eq y y) (list_any (nat_eq y) ys) (own_number y)) in absurd (cc)
same_rising (x ∷ xs) [] p q forth back = let never = forth x (or_first (nat_eq x x) (list_any (nat_eq x) xs) (own_number x)) in absurd (cc)
same_rising (x ∷ xs) (y ∷ ys) p q forth back =
    let x_there = or_true (nat_eq x y) (list_any (nat_eq x) ys) (forth x (or_first (nat_eq x x) (list_any (nat_eq x) xs) (own_number x))) in
    let y_there = or_true (nat_eq y x) (list_any (nat_eq y) xs) (back y (or_first (nat_eq y y) (list_any (nat_eq y) ys) (own_number y))) in
    let first = first_same x_there y_there in
    let rest = same_rising xs ys (rising_rest x xs p) (rising_rest y ys q) (λ z h. forth_rest first z h) (λ z h. back_rest first z h) in
    ap (λ (n : ℕ). n ∷ xs) first ∙ ap (λ (l : List ℕ). y ∷ l) rest
  where
    first_same : (nat_eq x y ≡ true) ⊎ (list_any (nat_eq x) ys ≡ true) → (nat_eq y x ≡ true) ⊎ (list_any (nat_eq y) xs ≡ true) → x ≡ y
    first_same (inl e) other = same_number x y e
    first_same (inr h) (inl e) = sym (same_number y x e)
    first_same (inr h) (inr k) = let low = rising_above y ys q x h in let high = rising_above x xs p y k in absurd (omega (arith, low, high))

    forth_rest : x ≡ y → (z : ℕ) → list_any (nat_eq z) xs ≡ true → list_any (nat_eq z) ys ≡ true
    forth_rest same z h = elim (or_true (nat_eq z y) (list_any (nat_eq z) ys) (forth z (or_second (nat_eq z x) (list_any (nat_eq z) xs) h))) [
      | inl e ↦ let above = rising_above x xs p z h in let is = same_number z y e in absurd (omega (arith, same, above, is))
      | inr k ↦ k
    ]

    back_rest : x ≡ y → (z : ℕ) → list_any (nat_eq z) ys ≡ true → list_any (nat_eq z) xs ≡ true
    back_rest same z h = elim (or_true (nat_eq z x) (list_any (nat_eq z) xs) (back z (or_second (nat_eq z y) (list_any (nat_eq z) ys) h))) [
      | inl e ↦ let above = rising_above y ys q z h in let is = same_number z x e in absurd (omega (arith, same, above, is))
      | inr k ↦ k
    ]
