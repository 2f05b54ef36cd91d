-- The places of names in a list.
use Rattle.std.proofs.Common.{◌≡◌, ℕ, zero, suc, ◌<◌, List, [], ◌∷◌, Some, length, map, refl, sym, ◌∙◌, ap, arith}
use Rattle.std.specs.Prelude.{Bool, true, false, ◌||◌, if◌then◌else◌, nat_eq, slice_get, option_map}
use Rattle.std.specs.List.{AllByRecursion}
use Rattle.std.proofs.lemmas.Bool.{eqb-true, eq-eqb}
use Rattle.std.proofs.lemmas.Option.{slice_get-map}
use Rattle.pc_window.specs.Rebasing.{is_in}
use Rattle.pc_canon.specs.Canonical.{place_of}
use Rattle.pc_canon.proofs.Membership.{has, has_is, Distinct}
use Rattle.pc_word.proofs.Truth.{same_test}

-- ---- the place of a name that is there

place_there : (xs : List ℕ) (x : ℕ) → has xs x ≡ true → slice_get xs (place_of xs x) ≡ Some x
place_there [] x h = absurd (cc)
place_there (y ∷ ys) x h = by (nat_eq y x) refl h (place_there ys x)
  where
    by : (b : Bool) → nat_eq y x ≡ b → (b || has ys x) ≡ true → (has ys x ≡ true → slice_get ys (place_of ys x) ≡ Some x)
        → slice_get (y ∷ ys) (if b then 0 else suc (place_of ys x)) ≡ Some x
    by true e h next = ap (λ (n : ℕ). Some n) (eqb-true y x e)
    by false e h next = next h

module _ (xs : List ℕ) where
  pub at_place : (x : ℕ) → is_in x xs ≡ true → slice_get xs (place_of xs x) ≡ Some x
  at_place x h = place_there xs x (has_is xs x ∙ h)

  -- what stands at the place of a name in another list by name
  pub mapped_at_place : {A : Type 0} (f : ℕ → A) (x : ℕ) → is_in x xs ≡ true → slice_get (map f xs) (place_of xs x) ≡ Some (f x)
  mapped_at_place f x h = slice_get-map f xs (place_of xs x) ∙ ap (option_map f) (at_place x h)

  same_name : (x y : ℕ) → Some x ≡ Some y → x ≡ y
  same_name x y e = cc

  -- names at the same place are equal
  pub places_apart : (x y : ℕ) → is_in x xs ≡ true → is_in y xs ≡ true → nat_eq (place_of xs x) (place_of xs y) ≡ nat_eq x y
  places_apart x y h k =
      same_test (nat_eq (place_of xs x) (place_of xs y)) (nat_eq x y)
      (λ e. eq-eqb x y (same_name x y (sym (at_place x h) ∙ ap (slice_get xs) (eqb-true (place_of xs x) (place_of xs y) e) ∙ at_place y k)))
      (λ e. eq-eqb (place_of xs x) (place_of xs y) (ap (place_of xs) (eqb-true x y e)))

  pub place_below : (x : ℕ) → is_in x xs ≡ true → place_of xs x < length xs
  place_below x h = within xs (place_of xs x) (at_place x h)
    where
      within : (ys : List ℕ) (at : ℕ) {y : ℕ} → slice_get ys at ≡ Some y → at < length ys
      within [] at h = absurd (cc)
      within (y ∷ ys) zero h = omega arith
      within (y ∷ ys) (suc at) h = let lt = within ys at h in omega (arith, lt)

-- ---- numbers that tell names apart

module _ (f : ℕ → ℕ) (P : ℕ → Type 0) (apart : (x y : ℕ) → P x → P y → nat_eq (f x) (f y) ≡ nat_eq x y) where
  has_same : (xs : List ℕ) (x : ℕ) → AllByRecursion P xs → P x → has (map f xs) (f x) ≡ has xs x
  has_same [] x all p = refl
  has_same (y ∷ ys) x all p = λ i. apart y x all.0 p i || has_same ys x all.1 p i

  pub distinct_mapped : (xs : List ℕ) → AllByRecursion P xs → Distinct xs → Distinct (map f xs)
  distinct_mapped [] all d = tt
  distinct_mapped (x ∷ xs) all d = (has_same xs x all.1 all.0 ∙ d.0, distinct_mapped xs all.1 d.1)
