-- What is in a list: in lists that are joined, filtered and mapped.
use Rattle.std.proofs.Common.{◌≡◌, zero, suc, ◌⊎◌, inl, inr, Bool, true, false, cond, List, [], ◌∷◌, ◌++◌, map, refl, sym, ◌∙◌, ap, subst, arith}
use Rattle.std.specs.Prelude.{Contains, if◌then◌else◌, filter}
use Rattle.std.specs.List.{list_any, flat_map, AllByRecursion}
use Rattle.pc_word.proofs.Truth.{or_true, or_first, or_second, or_false, or_made_false}

-- ---- elements

-- an element of a list
abbrev pub In : {X : Type 0} → List X → X → Type 0
In [] x = ⊥
In (y ∷ ys) x = (y ≡ x) ⊎ In ys x

pub in_of : {X : Type 0} (xs : List X) (x : X) → Contains xs x → In xs x
in_of [] x (k, below, e) = absurd (omega (arith, below))
in_of (y ∷ ys) x (zero, below, e) = inl e
in_of (y ∷ ys) x (suc k, below, e) = inr (in_of ys x (k, omega (arith, below), e))

pub of_in : {X : Type 0} (xs : List X) (x : X) → In xs x → Contains xs x
of_in [] x h = absurd h
of_in (y ∷ ys) x (inl e) = (0, omega arith, e)
of_in (y ∷ ys) x (inr h) = let there = of_in ys x h in (suc there.0, omega (arith, there.1), there.2)

-- ---- lists that are joined

pub in_front : {X : Type 0} (xs ys : List X) (x : X) → In xs x → In (xs ++ ys) x
in_front [] ys x h = absurd h
in_front (z ∷ xs) ys x (inl e) = inl e
in_front (z ∷ xs) ys x (inr h) = inr (in_front xs ys x h)

pub in_back : {X : Type 0} (xs ys : List X) (x : X) → In ys x → In (xs ++ ys) x
in_back [] ys x h = h
in_back (z ∷ xs) ys x h = inr (in_back xs ys x h)

pub in_either : {X : Type 0} (xs ys : List X) (x : X) → In (xs ++ ys) x → In xs x ⊎ In ys x
in_either [] ys x h = inr h
in_either (z ∷ xs) ys x (inl e) = inl (inl e)
in_either (z ∷ xs) ys x (inr h) = elim (in_either xs ys x h) [
  | inl k ↦ inl (inr k)
  | inr k ↦ inr k
]

-- ---- lists that are there where a test passes

pub in_if : {X : Type 0} (b : Bool) (xs : List X) (x : X) → In (if b then xs else []) x → (b ≡ true) × In xs x
in_if true xs x h = (refl, h)
in_if false xs x h = absurd h

pub of_if : {X : Type 0} (b : Bool) (xs : List X) (x : X) → b ≡ true → In xs x → In (if b then xs else []) x
of_if true xs x e h = h
of_if false xs x e h = absurd (cc)

-- ---- lists that are filtered and mapped

module _ {X : Type 0} (p : X → Bool) where
  first_kept : (b : Bool) (y : X) (ys : List X) (x : X) → p y ≡ b → (In ys x → In (filter p ys) x) → p x ≡ true → In (y ∷ ys) x
      → In (cond b (y ∷ filter p ys) (filter p ys)) x
  first_kept true y ys x is rest passes (inl e) = inl e
  first_kept true y ys x is rest passes (inr h) = inr (rest h)
  first_kept false y ys x is rest passes (inl e) = let same : p y ≡ p x = ap p e in absurd (cc)
  first_kept false y ys x is rest passes (inr h) = rest h

  pub of_filter : (xs : List X) (x : X) → p x ≡ true → In xs x → In (filter p xs) x
  of_filter [] x passes h = absurd h
  of_filter (y ∷ ys) x passes h = first_kept (p y) y ys x refl (of_filter ys x passes) passes h

  first_in : (b : Bool) (y : X) (ys : List X) (x : X) → p y ≡ b → (In (filter p ys) x → In ys x × (p x ≡ true))
      → In (cond b (y ∷ filter p ys) (filter p ys)) x → In (y ∷ ys) x × (p x ≡ true)
  first_in true y ys x is rest (inl e) = (inl e, sym (ap p e) ∙ is)
  first_in true y ys x is rest (inr h) = let there = rest h in (inr there.0, there.1)
  first_in false y ys x is rest h = let there = rest h in (inr there.0, there.1)

  pub in_filter : (xs : List X) (x : X) → In (filter p xs) x → In xs x × (p x ≡ true)
  in_filter [] x h = absurd h
  in_filter (y ∷ ys) x h = first_in (p y) y ys x refl (in_filter ys x) h

module _ {X Y : Type 0} where
  pub of_map : (f : X → Y) (xs : List X) (x : X) → In xs x → In (map f xs) (f x)
  of_map f [] x h = absurd h
  of_map f (z ∷ xs) x (inl e) = inl (ap f e)
  of_map f (z ∷ xs) x (inr h) = inr (of_map f xs x h)

  pub in_map : (f : X → Y) (xs : List X) (y : Y) → In (map f xs) y → (x : X) × In xs x × (f x ≡ y)
  in_map f [] y h = absurd h
  in_map f (z ∷ xs) y (inl e) = (z, inl refl, e)
  in_map f (z ∷ xs) y (inr h) = let there = in_map f xs y h in (there.0, inr there.1, there.2)

  pub of_flat : (f : X → List Y) (xs : List X) (x : X) (y : Y) → In xs x → In (f x) y → In (flat_map f xs) y
  of_flat f [] x y h k = absurd h
  of_flat f (z ∷ xs) x y (inl e) k = let here : In (f z) y = subst (λ (w : X). In (f w) y) (sym e) k in in_front (f z) (flat_map f xs) y here
  of_flat f (z ∷ xs) x y (inr h) k = in_back (f z) (flat_map f xs) y (of_flat f xs x y h k)

  pub in_flat : (f : X → List Y) (xs : List X) (y : Y) → In (flat_map f xs) y → (x : X) × In xs x × In (f x) y
  in_flat f [] y h = absurd h
  in_flat f (z ∷ xs) y h = elim (in_either (f z) (flat_map f xs) y h) [
    | inl k ↦ (z, inl refl, k)
    | inr k ↦ let there = in_flat f xs y k in (there.0, inr there.1, there.2)
  ]

-- ---- tests of each element

module _ {X : Type 0} (p : X → Bool) where
  pub of_any : (xs : List X) (x : X) → In xs x → p x ≡ true → list_any p xs ≡ true
  of_any [] x h passes = absurd h
  of_any (y ∷ ys) x (inl e) passes = or_first (p y) (list_any p ys) (ap p e ∙ passes)
  of_any (y ∷ ys) x (inr h) passes = or_second (p y) (list_any p ys) (of_any ys x h passes)

  pub in_any : (xs : List X) → list_any p xs ≡ true → (x : X) × In xs x × (p x ≡ true)
  in_any [] h = absurd (cc)
  in_any (y ∷ ys) h = elim (or_true (p y) (list_any p ys) h) [
    | inl e ↦ (y, inl refl, e)
    | inr k ↦ let there = in_any ys k in (there.0, inr there.1, there.2)
  ]

  pub all_fail : (xs : List X) → list_any p xs ≡ false → AllByRecursion (λ x. p x ≡ false) xs
  all_fail [] h = tt
  all_fail (y ∷ ys) h = let both = or_false (p y) (list_any p ys) h in (both.0, all_fail ys both.1)

  pub none_passes : (xs : List X) → AllByRecursion (λ x. p x ≡ false) xs → list_any p xs ≡ false
  none_passes [] h = refl
  none_passes (y ∷ ys) h = or_made_false (p y) (list_any p ys) h.0 (none_passes ys h.1)
