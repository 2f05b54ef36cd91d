-- Membership in lists of numbers, and lists without a number twice.
use Rattle.std.proofs.Common.{◌≡◌, ℕ, List, [], ◌∷◌, refl, sym, ◌∙◌}
use Rattle.std.specs.Prelude.{Bool, false, ◌||◌, nat_eq}
use Rattle.std.specs.List.{AllByRecursion, IsDistinct}
use Rattle.std.proofs.lemmas.Bool.{eqb-true, eq-eqb}
use Rattle.pc_word.proofs.Truth.{or_false, or_made_false, same_test}
use Rattle.pc_window.specs.Rebasing.{is_in}
use Rattle.pc_window.proofs.Listed.{flipped}

-- whether a number is in a list, asked of each element in turn
abbrev pub has : List ℕ → ℕ → Bool
has [] x = false
has (y ∷ ys) x = nat_eq y x || has ys x

-- no number is in a list twice
abbrev pub Distinct : List ℕ → Type 0
Distinct [] = Unit {0}
Distinct (y ∷ ys) = (has ys y ≡ false) × Distinct ys

pub has_is : (xs : List ℕ) (x : ℕ) → has xs x ≡ is_in x xs
has_is [] x = refl
has_is (y ∷ ys) x = λ i. flipped y x i || has_is ys x i

-- a number that is not in a list differs from each element
apart_from : (y : ℕ) (ys : List ℕ) → has ys y ≡ false → AllByRecursion (λ z. nat_eq y z ≡ false) ys
apart_from y [] h = tt
apart_from y (z ∷ zs) h = let p = or_false (nat_eq z y) (has zs y) h in (flipped y z ∙ p.0, apart_from y zs p.1)

apart_to : (y : ℕ) (ys : List ℕ) → AllByRecursion (λ z. nat_eq y z ≡ false) ys → has ys y ≡ false
apart_to y [] h = refl
apart_to y (z ∷ zs) h = or_made_false (nat_eq z y) (has zs y) (flipped z y ∙ h.0) (apart_to y zs h.1)

pub distinct_from : (xs : List ℕ) → IsDistinct nat_eq xs → Distinct xs
unfolding IsDistinct
distinct_from [] h = tt
distinct_from (x ∷ xs) h = (apart_to x xs h.0, distinct_from xs h.1)

pub distinct_to : (xs : List ℕ) → Distinct xs → IsDistinct nat_eq xs
unfolding IsDistinct
distinct_to [] h = tt
distinct_to (x ∷ xs) h = (apart_from x xs h.0, distinct_to xs h.1)
