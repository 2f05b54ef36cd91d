-- What stands at the places of a list, and numbers told apart.
use Rattle.std.proofs.Common.{◌≡◌, ◌≢◌, ℕ, zero, suc, ◌<◌, ◌≤◌, ◌⊎◌, inl, inr, true, false, List, [], ◌∷◌, ◌++◌, length, drop, map, Some, None}
use Rattle.std.proofs.Common.{refl, ap, arith}
use Rattle.std.specs.Prelude.{nat_eq, slice_get, slice_set, slice_index}
use Rattle.std.proofs.lemmas.Bool.Decides.{nat_tests}

-- ---- places

-- what stands in a list stands there in a longer one
pub get_front : {X : Type 0} (xs ys : List X) (i : ℕ) (x : X) → slice_get xs i ≡ Some x → slice_get (xs ++ ys) i ≡ Some x
get_front [] ys i x e = absurd (cc)
get_front (z ∷ xs) ys zero x e = e
get_front (z ∷ xs) ys (suc i) x e = get_front xs ys i x e

-- what stands within a list
pub found_within : {X : Type 0} (xs : List X) (i : ℕ) → i < length xs → (x : X) × (slice_get xs i ≡ Some x)
found_within [] i lt = absurd (omega arith)
found_within (x ∷ xs) zero lt = (x, refl)
found_within (x ∷ xs) (suc i) lt = found_within xs i (omega arith)

-- an element that was put after a list
pub get_last : {X : Type 0} (xs : List X) (x : X) → slice_get (xs ++ x ∷ []) (length xs) ≡ Some x
get_last [] x = refl
get_last (y ∷ xs) x = get_last xs x

-- what stands in a list with an element more stood there before, or is that element
pub get_more : {X : Type 0} (xs : List X) (y : X) (i : ℕ) (x : X) → slice_get (xs ++ y ∷ []) i ≡ Some x
    → (slice_get xs i ≡ Some x) ⊎ ((i ≡ length xs) × (y ≡ x))
get_more [] y zero x e = inr (refl, cc)
get_more [] y (suc i) x e = absurd (cc)
get_more (z ∷ xs) y zero x e = inl e
get_more (z ∷ xs) y (suc i) x e = elim (get_more xs y i x e) [
  | inl h ↦ inl h
  | inr h ↦ inr (ap suc h.0, h.1)
]

-- a list with an element more
pub length_more : {X : Type 0} (xs : List X) (x : X) → length (xs ++ x ∷ []) ≡ suc (length xs)
length_more [] x = refl
length_more (y ∷ xs) x = ap suc (length_more xs x)

-- where nothing stands the list has ended
pub none_left : {X : Type 0} (xs : List X) (i : ℕ) → slice_get xs i ≡ None → length xs ≤ i
none_left [] i e = omega arith
none_left (x ∷ xs) zero e = absurd (cc)
none_left (x ∷ xs) (suc i) e = let rest = none_left xs i e in omega (arith, rest)

-- the number that stands at a place
pub index_stands : (xs : List ℕ) (i : ℕ) → i < length xs → slice_get xs i ≡ Some (slice_index xs i)
index_stands [] i lt = absurd (omega arith)
index_stands (x ∷ xs) zero lt = refl
index_stands (x ∷ xs) (suc i) lt = index_stands xs i (omega arith)

-- what stands where an element was put
pub set_there : {X : Type 0} (xs : List X) (i : ℕ) (x : X) → i < length xs → slice_get (slice_set xs i x) i ≡ Some x
set_there [] i x h = absurd (omega arith)
set_there (y ∷ xs) zero x h = refl
set_there (y ∷ xs) (suc i) x h = set_there xs i x (omega arith)

-- and elsewhere
pub set_elsewhere : {X : Type 0} (xs : List X) (i j : ℕ) (x : X) → i ≢ j → slice_get (slice_set xs i x) j ≡ slice_get xs j
set_elsewhere [] i j x h = refl
set_elsewhere (y ∷ xs) zero zero x h = absurd (h refl)
set_elsewhere (y ∷ xs) zero (suc j) x h = refl
set_elsewhere (y ∷ xs) (suc i) zero x h = refl
set_elsewhere (y ∷ xs) (suc i) (suc j) x h = set_elsewhere xs i j x (λ e. h (ap suc e))

-- the rest of a list from a place on begins with what stands there
pub drop_at : {X : Type 0} (xs : List X) (i : ℕ) (x : X) → slice_get xs i ≡ Some x → drop i xs ≡ x ∷ drop (suc i) xs
drop_at [] i x e = absurd (cc)
drop_at (y ∷ xs) zero x e = let same : y ≡ x = (cc) in ap (λ z. z ∷ xs) same
drop_at (y ∷ xs) (suc i) x e = drop_at xs i x e

-- what stands at a place of images
pub map_at : {X Y : Type 0} (f : X → Y) (xs : List X) (i : ℕ) (x : X) → slice_get xs i ≡ Some x → slice_get (map f xs) i ≡ Some (f x)
map_at f [] i x e = absurd (cc)
map_at f (y ∷ xs) zero x e = let same : y ≡ x = (cc) in ap (λ z. Some (f z)) same
map_at f (y ∷ xs) (suc i) x e = map_at f xs i x e

-- there are as many images
pub map_length : {X Y : Type 0} (f : X → Y) (xs : List X) → length (map f xs) ≡ length xs
map_length f [] = refl
map_length f (x ∷ xs) = ap suc (map_length f xs)

-- ---- numbers

-- numbers that a test finds equal
pub same_number : (x y : ℕ) → nat_eq x y ≡ true → x ≡ y
same_number x y e = grind (arith, nat_tests)

-- numbers that a test finds different
pub other_number : (x y : ℕ) → nat_eq x y ≡ false → x ≢ y
other_number x y e = grind (arith, nat_tests)

-- numbers that differ, for a test
pub number_apart : (x y : ℕ) → x ≢ y → nat_eq x y ≡ false
number_apart x y e = grind (arith, nat_tests)

-- a test of equality does not care which comes first
pub other_way : (x y : ℕ) → nat_eq x y ≡ false → nat_eq y x ≡ false
other_way x y e = grind (arith, nat_tests)

-- each is equal to itself
pub own_number : (x : ℕ) → nat_eq x x ≡ true
own_number x = grind (arith, nat_tests)
