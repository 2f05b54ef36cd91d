-- Lists of words that are equal.
use Rattle.std.proofs.Common.{◌≡◌, ◌↔◌, ℕ, zero, suc, ◌+◌, ◌<◌, ◌≤◌, Bool, true, false, List, [], ◌∷◌, length, take, get_or, Some, refl, sym, ◌∙◌, ap, arith}
use Rattle.std.specs.Prelude.{slice_get}
use Rattle.std.proofs.lemmas.Option.{slice_get_read}

some_one : {A : Type 0} (x y : A) → Some x ≡ Some y → x ≡ y
some_one x y e = cc

take_same : {X : Type 0} (xs ys : List X) (at : ℕ) (x : X) → slice_get xs at ≡ Some x → slice_get ys at ≡ Some x → take at xs ≡ take at ys → take (suc at) xs ≡ take (suc at) ys
take_same [] ys at x here there same = absurd (cc)
take_same (z ∷ xs) [] at x here there same = absurd (cc)
take_same (z ∷ xs) (w ∷ ys) zero x here there same = let e : z ≡ w = some_one z w (here ∙ sym there) in ap (λ (y : _). y ∷ []) e
take_same (z ∷ xs) (w ∷ ys) (suc at) x here there same =
    let first : z ≡ w = cc in
    let rest : take at xs ≡ take at ys = cc in
    λ i. first i ∷ take_same xs ys at x here there rest i

module _ {X : Type 0} (xs ys : List X) (at : ℕ) (x y : X) (here : x ≡ get_or xs at x) (there : y ≡ get_or ys at y) (within : at < length xs) (within' : at < length ys)
    (same : Bool) (tells : (same ≡ true) ↔ (x ≡ y)) where
  -- one element more is the same
  pub same_more : same ≡ true → take at xs ≡ take at ys → take (at + 1) xs ≡ take (at + 1) ys
  same_more is so_far =
      let one : at + 1 ≡ suc at = omega arith in
      ap (λ (n : ℕ). take n xs) one
      ∙ take_same xs ys at x (slice_get_read xs (length xs) at x refl within here)
      (slice_get_read ys (length ys) at y refl within' there ∙ ap (λ (z : X). Some z) (sym (tells.0 is))) so_far
      ∙ ap (λ (n : ℕ). take n ys) (sym one)

  -- or lists are not
  pub not_same : same ≡ false → (false ≡ true) ↔ (xs ≡ ys)
  not_same differ = (
    λ e. absurd (cc),
    λ e. absurd (
        let one : x ≡ y = some_one x y (sym (slice_get_read xs (length xs) at x refl within here) ∙ ap (λ (list : List X). slice_get list at) e
        ∙ slice_get_read ys (length ys) at y refl within' there) in
        let is : true ≡ false = sym (tells.1 one) ∙ differ in cc
        ),
  )

take_all : {X : Type 0} (xs : List X) → take (length xs) xs ≡ xs
take_all [] = refl
take_all (x ∷ xs) = ap (λ list. x ∷ list) (take_all xs)

-- lists of one length of which all elements are the same
pub all_same : {X : Type 0} (xs ys : List X) (at : ℕ) → length xs ≤ at → at ≤ length xs → length xs ≡ length ys → take at xs ≡ take at ys → (true ≡ true) ↔ (xs ≡ ys)
all_same xs ys at above below as_many same =
    let all : at ≡ length xs = omega (arith, above, below) in
    (λ e. sym (take_all xs) ∙ ap (λ (n : ℕ). take n xs) (sym all) ∙ same ∙ ap (λ (n : ℕ). take n ys) (all ∙ as_many) ∙ take_all ys, λ e. refl)

-- lists that are not as long are not the same
pub other_length : {X : Type 0} (xs ys : List X) → (length xs ≡ length ys → ⊥) → (false ≡ true) ↔ (xs ≡ ys)
other_length xs ys differ = (λ e. absurd (cc), λ e. absurd (differ (ap length e)))

pub ruleset lists = (same_more, not_same, all_same, other_length)
