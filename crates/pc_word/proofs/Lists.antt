-- What holds of each element of a list, and counts.
use Rattle.std.proofs.Common.{◌≡◌, ℕ, zero, suc, ◌+◌, ◌⊎◌, inl, inr, ◌≢◌, ◌<◌, Bool, cond, List, [], ◌∷◌, ◌++◌, length, map, Some, refl, sym, ap, subst, arith}
use Rattle.std.specs.Prelude.{slice_get, slice_set, slice_index}
use Rattle.std.specs.List.{AllByRecursion, count_by}
use Rattle.std.proofs.lemmas.List.Sums.{sum_by-cons, sum_by-append}

-- what holds of each element of two lists holds of each of the first
pub all_front : {X : Type 0} (P : X → Type 0) (xs ys : List X) → AllByRecursion P (xs ++ ys) → AllByRecursion P xs
all_front P [] ys h = tt
all_front P (x ∷ xs) ys h = (h.0, all_front P xs ys h.1)

-- and of each of the second
pub all_back : {X : Type 0} (P : X → Type 0) (xs ys : List X) → AllByRecursion P (xs ++ ys) → AllByRecursion P ys
all_back P [] ys h = h
all_back P (x ∷ xs) ys h = all_back P xs ys h.1

-- what holds of each element of two lists holds of each of both
pub all_both : {X : Type 0} (P : X → Type 0) (xs ys : List X) → AllByRecursion P xs → AllByRecursion P ys → AllByRecursion P (xs ++ ys)
all_both P [] ys h k = k
all_both P (x ∷ xs) ys h k = (h.0, all_both P xs ys h.1 k)

-- what holds of each image
pub all_of_map : {X Y : Type 0} (P : Y → Type 0) (f : X → Y) (xs : List X) → AllByRecursion P (map f xs) → AllByRecursion (λ x. P (f x)) xs
all_of_map P f [] h = tt
all_of_map P f (x ∷ xs) h = (h.0, all_of_map P f xs h.1)

-- and back
pub map_of_all : {X Y : Type 0} (P : Y → Type 0) (f : X → Y) (xs : List X) → AllByRecursion (λ x. P (f x)) xs → AllByRecursion P (map f xs)
map_of_all P f [] h = tt
map_of_all P f (x ∷ xs) h = (h.0, map_of_all P f xs h.1)

-- what follows from what holds of each element
pub all_imply : {X : Type 0} (P Q : X → Type 0) (xs : List X) → ((x : X) → P x → Q x) → AllByRecursion P xs → AllByRecursion Q xs
all_imply P Q [] f h = tt
all_imply P Q (x ∷ xs) f h = (f x h.0, all_imply P Q xs f h.1)

-- the count of one element more
pub count_more : {X : Type 0} (p : X → Bool) (x : X) (xs : List X) → count_by p (x ∷ xs) ≡ cond (p x) 1 0 + count_by p xs
count_more p x xs = sum_by-cons (λ y. cond (p y) 1 0) x xs

-- the count of two lists
pub count_both : {X : Type 0} (p : X → Bool) (xs ys : List X) → count_by p (xs ++ ys) ≡ count_by p xs + count_by p ys
count_both p xs ys = sum_by-append (λ y. cond (p y) 1 0) xs ys

-- what holds of each element holds of the one at a place
pub all_at : {X : Type 0} (P : X → Type 0) (xs : List X) (i : ℕ) (x : X) → AllByRecursion P xs → slice_get xs i ≡ Some x → P x
all_at P [] i x all e = absurd (cc)
all_at P (y ∷ ys) zero x all e = let same : y ≡ x = (cc) in subst P same all.0
all_at P (y ∷ ys) (suc i) x all e = all_at P ys i x all.1 e

-- what stands at a place of a list in which one element was replaced: that one, at its place, or what stood there
pub set_at : {X : Type 0} (xs : List X) (i j : ℕ) (x y : X) → slice_get (slice_set xs i x) j ≡ Some y
    → ((j ≡ i) × (y ≡ x)) ⊎ ((j ≢ i) × (slice_get xs j ≡ Some y))
set_at [] i j x y e = absurd (cc)
set_at (z ∷ xs) zero zero x y e = let same : x ≡ y = (cc) in inl (refl, sym same)
set_at (z ∷ xs) zero (suc j) x y e = inr ((λ same. absurd (cc)), e)
set_at (z ∷ xs) (suc i) zero x y e = inr ((λ same. absurd (cc)), e)
set_at (z ∷ xs) (suc i) (suc j) x y e = elim (set_at xs i j x y e) [
  | inl h ↦ inl (ap suc h.0, h.1)
  | inr h ↦ inr ((λ same. h.0 (omega (arith, same))), h.1)
]

-- and the list is as long
pub set_length : {X : Type 0} (xs : List X) (i : ℕ) (x : X) → length (slice_set xs i x) ≡ length xs
set_length [] i x = refl
set_length (y ∷ xs) zero x = refl
set_length (y ∷ xs) (suc i) x = ap suc (set_length xs i x)

-- the number at a place of a list in which one number was replaced: that one
pub index_set_same : (xs : List ℕ) (i x : ℕ) → i < length xs → slice_index (slice_set xs i x) i ≡ x
index_set_same [] i x h = absurd (omega arith)
index_set_same (y ∷ xs) zero x h = refl
index_set_same (y ∷ xs) (suc i) x h = index_set_same xs i x (omega arith)

-- or, at another place, what stood there
pub index_set_other : (xs : List ℕ) (i j x : ℕ) → i ≢ j → slice_index (slice_set xs i x) j ≡ slice_index xs j
index_set_other [] i j x h = refl
index_set_other (y ∷ xs) zero zero x h = absurd (h refl)
index_set_other (y ∷ xs) zero (suc j) x h = refl
index_set_other (y ∷ xs) (suc i) zero x h = refl
index_set_other (y ∷ xs) (suc i) (suc j) x h = index_set_other xs i j x (λ e. h (ap suc e))
