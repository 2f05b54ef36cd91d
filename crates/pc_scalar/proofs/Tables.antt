-- Lists that are made of the nodes of a graph, one after the other.
use Rattle.std.proofs.Common.{◌≡◌, ℕ, zero, suc, ◌+◌, ◌<◌, ◌≤◌, List, [], ◌∷◌, ◌++◌, length, map, take, drop, get_or}
use Rattle.std.proofs.Common.{set, append_assoc, Some, refl, sym, ◌∙◌, ap, subst, arith, inl, inr}
use Rattle.std.specs.Prelude.{slice_get, slice_index}
use Rattle.std.proofs.lemmas.Bool.{cases_eq}
use Rattle.std.proofs.lemmas.List.{get_or_default, map-append, length-map, length-take-le, drop_more, get_or_at, set_at, take_more, take_all, get_or_append_left, get_or_push}
use Rattle.std.proofs.lemmas.Option.{slice_get_within, slice_get-get_or}

-- what stands at a place of a list
pub stands_at : {X : Type 0} (xs : List X) (i : ℕ) (x d : X) → slice_get xs i ≡ Some x → get_or xs i d ≡ x
stands_at xs i x d e = let is = slice_get-get_or xs i d (slice_get_within xs i x e) in cc

-- the image of one element more
pub mapped_more : {X Y : Type 0} (f : X → Y) (xs : List X) (ys more : List Y) (i : ℕ) (x : X) (y : Y) → slice_get xs i ≡ Some x → y ≡ f x
    → ys ≡ map f (take i xs) → more ≡ ys ++ y ∷ [] → more ≡ map f (take (i + 1) xs)
mapped_more f xs ys more i x y there is so_far e =
    let one_more = take_more xs i x (slice_get_within xs i x there) ∙ ap (λ z. take i xs ++ z ∷ []) (stands_at xs i x x there) in
    rw one_more (rw map-append (e ∙ ap (λ l. l ++ y ∷ []) so_far ∙ ap (λ z. map f (take i xs) ++ z ∷ []) is))

-- of all elements
pub mapped_all : {X Y : Type 0} (f : X → Y) (xs : List X) (ys : List Y) (i : ℕ) → length xs ≤ i → ys ≡ map f (take i xs) → ys ≡ map f xs
mapped_all f xs ys i end e = e ∙ ap (map f) (take_all i xs end)

-- a number for each element, as far as some place, and for one element more
pub numbered_more : {X : Type 0} (f : ℕ → X → ℕ) (xs : List X) (table more : List ℕ) (i : ℕ) (x : X) (n : ℕ) → slice_get xs i ≡ Some x → n ≡ f i x
    → length table ≡ i → more ≡ table ++ n ∷ []
    → ((k : ℕ) (y : X) → k < i → slice_get xs k ≡ Some y → slice_index table k ≡ f k y)
    → (k : ℕ) (y : X) → k < i + 1 → slice_get xs k ≡ Some y → slice_index more k ≡ f k y
numbered_more f xs table more i x n there is long e so_far k y low at_k = elim (cases_eq k i) [
  | inl same ↦
      let stands : slice_index more k ≡ n = ap (λ (l : List ℕ). slice_index l k) e ∙ get_or_push table n 0 k (long ∙ sym same) in
      let at_i = subst (λ (j : ℕ). slice_get xs j ≡ Some y) same at_k in
      stands ∙ is ∙ ap (f i) (let x_is_y : x ≡ y = (cc) in x_is_y) ∙ ap (λ (j : ℕ). f j y) (sym same)
  | inr apart ↦
      let before : k < i = omega arith in
      ap (λ (l : List ℕ). slice_index l k) e ∙ get_or_append_left table (n ∷ []) 0 k (omega arith) ∙ so_far k y before at_k
]

-- what the image at a place is of
pub mapped_from : {X Y : Type 0} (f : X → Y) (xs : List X) (i : ℕ) (y : Y) → slice_get (map f xs) i ≡ Some y → (x : X) × (slice_get xs i ≡ Some x) × (f x ≡ y)
mapped_from f [] i y e = absurd (cc)
mapped_from f (x ∷ xs) zero y e = (x, refl, let same : f x ≡ y = (cc) in same)
mapped_from f (x ∷ xs) (suc i) y e = mapped_from f xs i y e

-- a list whose elements are changed one after the other
pub changed_more : {X : Type 0} (f : X → X) (xs now : List X) (i : ℕ) (x : X) → i < length xs → now ≡ map f (take i xs) ++ drop i xs
    → x ≡ f (get_or now i x) → set now i x ≡ map f (take (i + 1) xs) ++ drop (i + 1) xs
changed_more f xs now i x there so_far is =
    let front : length (map f (take i xs)) ≡ i = length-map (take i xs) f ∙ length-take-le i xs (omega arith) in
    let split : now ≡ map f (take i xs) ++ get_or xs i x ∷ drop (i + 1) xs = so_far ∙ ap (λ l. map f (take i xs) ++ l) (drop_more xs i x there) in
    let old : get_or now i x ≡ get_or xs i x = ap (λ l. get_or l i x) split ∙ get_or_at (map f (take i xs)) (get_or xs i x) (drop (i + 1) xs) x i front in
    let value : x ≡ f (get_or xs i x) = is ∙ ap f old in
    let one_more : map f (take (i + 1) xs) ≡ map f (take i xs) ++ f (get_or xs i x) ∷ [] = ap (map f) (take_more xs i x there) ∙ map-append f (take i xs) (get_or xs i x ∷ []) in
    ap (λ l. set l i x) split ∙ set_at (map f (take i xs)) (get_or xs i x) (drop (i + 1) xs) x i front
    ∙ rw one_more (ap (λ z. map f (take i xs) ++ z ∷ drop (i + 1) xs) value ∙ sym (append_assoc (map f (take i xs)) (f (get_or xs i x) ∷ []) (drop (i + 1) xs)))

-- the element at a place, at another default
pub same_default : {X : Type 0} (f : X → X) (xs : List X) (i : ℕ) (d x : X) → i < length xs → x ≡ f (get_or xs i d) → x ≡ f (get_or xs i x)
same_default f xs i d x there e = e ∙ ap f (get_or_default xs i d x there)
