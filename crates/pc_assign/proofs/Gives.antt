-- Names with registers beside them.
use Rattle.std.proofs.Common.{◌≡◌, ℕ, zero, suc, Bool, false, ◌&&◌, ◌||◌, List, [], ◌∷◌, ◌++◌, length, take, Option, Some, None, refl, sym}
use Rattle.std.proofs.Common.{◌∙◌, ap, arith}
use Rattle.std.specs.Prelude.{nat_eq, slice_get, if◌then◌else◌}
use Rattle.std.specs.List.{IsDistinct, AllByRecursion}
use Rattle.pc_word.proofs.Truth.{or_false}
use Rattle.pc_window.specs.Rebasing.{is_in}
use Rattle.pc_assign.specs.Assigned.{is_register, one_has, used_has}
use Rattle.pc_assign.specs.Stored.{beside}
use Rattle.pc_assign.specs.models.Choosing.{used_holds}
use Rattle.pc_word.proofs.Places.{other_way, own_number}

-- each name has the register beside it
abbrev pub GivesEach : (ℕ → Option ℕ) → List ℕ → List ℕ → Type 0
GivesEach of [] registers = Unit {0}
GivesEach of (name ∷ names) [] = ⊥
GivesEach of (name ∷ names) (register ∷ registers) = (of name ≡ Some register) × GivesEach of names registers

-- ---- what is taken

pub one_has_is : (of : ℕ → Option ℕ) (names registers : List ℕ) (q : ℕ) → GivesEach of names registers → length registers ≡ length names
    → one_has of names q ≡ is_in q registers
one_has_is of [] [] q h e = refl
one_has_is of [] (r ∷ registers) q h e = absurd (omega (arith, e))
one_has_is of (name ∷ names) [] q h e = absurd h
one_has_is of (name ∷ names) (r ∷ registers) q h e =
    (λ i. is_register q (h.0 i) || one_has_is of names registers q h.1 (omega (arith, e)) i)

pub used_has_is : (used : ℕ → Bool) (of : ℕ → Option ℕ) (names registers : List ℕ) (q : ℕ) → GivesEach of names registers
    → used_has used of names q ≡ used_holds used names registers q
used_has_is used of [] registers q h = refl
used_has_is used of (name ∷ names) [] q h = absurd h
used_has_is used of (name ∷ names) (r ∷ registers) q h =
    (λ i. (used name && is_register q (h.0 i)) || used_has_is used of names registers q h.1 i)

-- ---- parts

pub gives_front : (of : ℕ → Option ℕ) (xs ys rs ss : List ℕ) → length rs ≡ length xs → GivesEach of (xs ++ ys) (rs ++ ss) → GivesEach of xs rs
gives_front of [] ys rs ss e h = tt
gives_front of (x ∷ xs) ys [] ss e h = absurd (omega (arith, e))
gives_front of (x ∷ xs) ys (r ∷ rs) ss e h = (h.0, gives_front of xs ys rs ss (omega (arith, e)) h.1)

pub gives_back : (of : ℕ → Option ℕ) (xs ys rs ss : List ℕ) → length rs ≡ length xs → GivesEach of (xs ++ ys) (rs ++ ss) → GivesEach of ys ss
gives_back of [] ys [] ss e h = h
gives_back of [] ys (r ∷ rs) ss e h = absurd (omega (arith, e))
gives_back of (x ∷ xs) ys [] ss e h = absurd (omega (arith, e))
gives_back of (x ∷ xs) ys (r ∷ rs) ss e h = gives_back of xs ys rs ss (omega (arith, e)) h.1

pub gives_take : (of : ℕ → Option ℕ) (xs rs : List ℕ) (n : ℕ) → GivesEach of xs rs → GivesEach of (take n xs) (take n rs)
gives_take of xs rs zero h = tt
gives_take of [] rs (suc n) h = tt
gives_take of (x ∷ xs) [] (suc n) h = absurd h
gives_take of (x ∷ xs) (r ∷ rs) (suc n) h = (h.0, gives_take of xs rs n h.1)

pub length_take : (xs ys : List ℕ) (n : ℕ) → length xs ≡ length ys → length (take n xs) ≡ length (take n ys)
length_take xs ys zero e = refl
length_take [] [] (suc n) e = refl
length_take [] (y ∷ ys) (suc n) e = absurd (omega (arith, e))
length_take (x ∷ xs) [] (suc n) e = absurd (omega (arith, e))
length_take (x ∷ xs) (y ∷ ys) (suc n) e = ap suc (length_take xs ys n (omega (arith, e)))

pub gives_at : (of : ℕ → Option ℕ) (xs rs : List ℕ) (n x : ℕ) → GivesEach of xs rs → slice_get xs n ≡ Some x
    → (r : ℕ) × (slice_get rs n ≡ Some r) × (of x ≡ Some r)
gives_at of [] rs n x h e = absurd (cc)
gives_at of (y ∷ xs) [] n x h e = absurd h
gives_at of (y ∷ xs) (r ∷ rs) zero x h e = let same : y ≡ x = (cc) in (r, refl, ap of (sym same) ∙ h.0)
gives_at of (y ∷ xs) (r ∷ rs) (suc n) x h e = gives_at of xs rs n x h.1 e

-- ---- look-ups

gives_alike : (of other : ℕ → Option ℕ) (xs rs : List ℕ) → AllByRecursion (λ x. other x ≡ of x) xs → GivesEach of xs rs → GivesEach other xs rs
gives_alike of other [] rs k h = tt
gives_alike of other (x ∷ xs) [] k h = h
gives_alike of other (x ∷ xs) (r ∷ rs) k h = (k.0 ∙ h.0, gives_alike of other xs rs k.1 h.1)

past : (x r : ℕ) (xs rs ys : List ℕ) → AllByRecursion (λ y. nat_eq x y ≡ false) ys
    → AllByRecursion (λ y. beside (x ∷ xs) (r ∷ rs) y ≡ beside xs rs y) ys
past x r xs rs [] h = tt
past x r xs rs (y ∷ ys) h = (ap (λ (b : Bool). if b then Some r else beside xs rs y) (other_way x y h.0), past x r xs rs ys h.1)

-- among distinct names each has what stands beside it
pub beside_gives : (names registers : List ℕ) → IsDistinct nat_eq names → length registers ≡ length names
    → GivesEach (beside names registers) names registers
unfolding IsDistinct
beside_gives [] registers h e = tt
beside_gives (x ∷ xs) [] h e = absurd (omega (arith, e))
beside_gives (x ∷ xs) (r ∷ rs) h e = (
  ap (λ (b : Bool). if b then Some r else beside xs rs x) (own_number x),
  gives_alike (beside xs rs) (beside (x ∷ xs) (r ∷ rs)) xs rs (past x r xs rs xs h.0) (beside_gives xs rs h.1 (omega (arith, e))),
)

-- and no other name has one
pub beside_none : (names registers : List ℕ) (name : ℕ) → is_in name names ≡ false → beside names registers name ≡ None
beside_none [] registers name h = refl
beside_none (x ∷ xs) [] name h = refl
beside_none (x ∷ xs) (r ∷ rs) name h =
    let parts = or_false (nat_eq name x) (is_in name xs) h in
    ap (λ (b : Bool). if b then Some r else beside xs rs name) parts.0 ∙ beside_none xs rs name parts.1
