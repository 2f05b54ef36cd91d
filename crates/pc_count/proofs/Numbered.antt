-- Lists whose elements go by their numbers.
use Rattle.std.proofs.Common.{◌≡◌, ◌≢◌, ℕ, zero, suc, ◌+◌, ◌≤◌, List, [], ◌∷◌, length, refl, ap, ap₂, sym, ◌∙◌, subst, arith}
use Rattle.std.proofs.Math.Nat.{zero-add}
use Rattle.std.specs.Prelude.{Some, slice_get, slice_index_or, slice_set}
use Rattle.pc_count.specs.Counts.{each_numbered}

-- as many
pub length-each : {X Y : Type 0} (f : ℕ → X → Y) (number : ℕ) (xs : List X) → length (each_numbered f number xs) ≡ length xs
length-each f number [] = refl
length-each f number (x ∷ xs) = ap suc (length-each f (suc number) xs)

-- the element at a place
pub each-at : {X Y : Type 0} (f : ℕ → X → Y) (number : ℕ) (xs : List X) (i : ℕ) (x : X) (d : Y) → slice_get xs i ≡ Some x
    → slice_index_or (each_numbered f number xs) i d ≡ f (number + i) x
each-at f number [] i x d e = absurd (cc)
each-at f number (y ∷ ys) zero x d e =
    let same : y ≡ x = (cc) in
    let n : number ≡ number + 0 = omega arith in
    ap (f number) same ∙ ap (λ k. f k x) n
each-at f number (y ∷ ys) (suc i) x d e =
    let n : suc number + i ≡ number + suc i = omega arith in
    each-at f (suc number) ys i x d e ∙ ap (λ k. f k x) n

-- what is the same at each number is the same list
pub each-same : {X Y : Type 0} (f g : ℕ → X → Y) (number : ℕ) (xs : List X) → ((j : ℕ) (y : X) → number ≤ j → g j y ≡ f j y)
    → each_numbered g number xs ≡ each_numbered f number xs
each-same f g number [] same = refl
each-same {Y = Y} f g number (x ∷ xs) same =
    let here : g number x ≡ f number x = same number x (omega arith) in
    ap₂ (λ (y : Y) ys. y ∷ ys) here (each-same f g (suc number) xs (λ j y h. same j y (omega (arith, h))))

-- what differs at one number alone is the list with another element there
pub each-set : {X Y : Type 0} (f g : ℕ → X → Y) (number : ℕ) (xs : List X) (i : ℕ) (x : X) → slice_get xs i ≡ Some x
    → ((j : ℕ) (y : X) → j ≢ number + i → g j y ≡ f j y) → each_numbered g number xs ≡ slice_set (each_numbered f number xs) i (g (number + i) x)
each-set f g number [] i x e same = absurd (cc)
each-set {Y = Y} f g number (y ∷ ys) zero x e same =
    let is : y ≡ x = (cc) in
    let n : number ≡ number + 0 = omega arith in
    let here : g number y ≡ g (number + 0) x = ap (g number) is ∙ ap (λ k. g k x) n in
    ap₂ (λ (z : Y) zs. z ∷ zs) here (each-same f g (suc number) ys (λ j z h. same j z (λ bad. absurd (omega (arith, h, bad)))))
each-set {Y = Y} f g number (y ∷ ys) (suc i) x e same =
    let n : suc number + i ≡ number + suc i = omega arith in
    let here : g number y ≡ f number y = same number y (λ bad. absurd (omega (arith, bad))) in
    ap₂ (λ (z : Y) zs. z ∷ zs) here
    (subst (λ k. each_numbered g (suc number) ys ≡ slice_set (each_numbered f (suc number) ys) i (g k x)) n
    (each-set f g (suc number) ys i x e (λ j z h. same j z (λ bad. h (bad ∙ sym n)))))

-- so of a list whose first element has the number 0
pub first-at : {X Y : Type 0} (f : ℕ → X → Y) (xs : List X) (i : ℕ) (x : X) (d : Y) → slice_get xs i ≡ Some x → slice_index_or (each_numbered f 0 xs) i d ≡ f i x
first-at f xs i x d e = each-at f 0 xs i x d e ∙ ap (λ k. f k x) (zero-add i)

pub first-set : {X Y : Type 0} (f g : ℕ → X → Y) (xs : List X) (i : ℕ) (x : X) → slice_get xs i ≡ Some x
    → ((j : ℕ) (y : X) → j ≢ i → g j y ≡ f j y) → each_numbered g 0 xs ≡ slice_set (each_numbered f 0 xs) i (g i x)
first-set f g xs i x e same =
    each-set f g 0 xs i x e (λ j y h. same j y (λ is. h (is ∙ sym (zero-add i))))
    ∙ ap (λ k. slice_set (each_numbered f 0 xs) i (g k x)) (zero-add i)
