-- Tests taken apart and put together, and what tests of numbers say.
use Rattle.std.proofs.Common.{◌≡◌, ◌↔◌, ℕ, ◌<◌, ◌≤◌, ◌⊎◌, inl, inr, Bool, true, false, ◌&&◌, ◌||◌, refl, not, arith}
use Rattle.std.specs.Prelude.{nat_lt, nat_le}
use Rattle.std.proofs.lemmas.Bool.Decides.{nat_tests}

-- ---- and, or, not

-- both parts of a test that passed
pub and_true : (a b : Bool) → (a && b) ≡ true → (a ≡ true) × (b ≡ true)
and_true true true h = (refl, refl)
and_true true false h = cc
and_true false b h = cc

-- and joined
pub and_made : (a b : Bool) → a ≡ true → b ≡ true → (a && b) ≡ true
and_made true true h k = refl
and_made true false h k = cc
and_made false b h k = cc

-- a test fails whose first part fails
pub and_made_false : (a b : Bool) → a ≡ false → (a && b) ≡ false
and_made_false true b h = cc
and_made_false false b h = refl

-- an or passes whose first part passes
pub or_first : (a b : Bool) → a ≡ true → (a || b) ≡ true
or_first true b h = refl
or_first false b h = cc

-- an or passes whose second part passes
pub or_second : (a b : Bool) → b ≡ true → (a || b) ≡ true
or_second true b h = refl
or_second false true h = refl
or_second false false h = cc

-- one part of an or that passed
pub or_true : (a b : Bool) → (a || b) ≡ true → (a ≡ true) ⊎ (b ≡ true)
or_true true b h = inl refl
or_true false true h = inr refl
or_true false false h = cc

-- a test that failed fails in both parts of an or
pub or_false : (a b : Bool) → (a || b) ≡ false → (a ≡ false) × (b ≡ false)
or_false true b h = cc
or_false false true h = cc
or_false false false h = (refl, refl)

-- and joined
pub or_made_false : (a b : Bool) → a ≡ false → b ≡ false → (a || b) ≡ false
or_made_false true b h k = cc
or_made_false false true h k = cc
or_made_false false false h k = refl

-- tests that pass together
pub same_test : (b c : Bool) → (b ≡ true → c ≡ true) → (c ≡ true → b ≡ true) → b ≡ c
same_test true true forth back = refl
same_test true false forth back = let never = forth refl in cc
same_test false true forth back = let never = back refl in cc
same_test false false forth back = refl

-- a test whose opposite passed
pub not_true : (b : Bool) → not b ≡ true → b ≡ false
not_true true h = cc
not_true false h = refl

-- ---- a test that tells a fact

-- it passes where the fact is there
pub holds_here : (P : Type 0) → P → (true ≡ true) ↔ P
holds_here P h = (λ e. h, λ p. refl)

-- it fails where the fact is not
pub fails_here : (P : Type 0) → (P → ⊥) → (false ≡ true) ↔ P
fails_here P h = (λ e. absurd (cc), λ p. absurd (h p))

-- where it fails the fact is not there
pub failed : {b : Bool} {P : Type 0} → (b ≡ true) ↔ P → b ≡ false → P → ⊥
failed iff e p = let t = iff.1 p in absurd (cc)

-- where it passes the fact is there
pub held : {b : Bool} {P : Type 0} → (b ≡ true) ↔ P → b ≡ true → P
held iff e = iff.0 e

-- the same fact in other words
pub same_fact : (b : Bool) (P Q : Type 0) → (P → Q) → (Q → P) → (b ≡ true) ↔ P → (b ≡ true) ↔ Q
same_fact b P Q forth back iff = (λ e. forth (iff.0 e), λ q. iff.1 (back q))

-- ---- numbers

-- one number is at most another, or above it
pub decide_le : (n m : ℕ) → (n ≤ m) ⊎ (m < n)
decide_le n m = grind arith

-- where "less than" passes
pub less_of : (a b : ℕ) → nat_lt a b ≡ true → a < b
less_of a b h = grind (arith, nat_tests)

-- where "less than" fails
pub most_of : (a b : ℕ) → nat_lt a b ≡ false → b ≤ a
most_of a b h = grind (arith, nat_tests)

-- where "at most" fails
pub below_of : (a b : ℕ) → nat_le a b ≡ false → b < a
below_of a b h = grind (arith, nat_tests)

-- where "less than" fails, as it follows
pub of_most : (a b : ℕ) → b ≤ a → nat_lt a b ≡ false
of_most a b h = grind (arith, nat_tests)

-- where "at most" fails, as it follows
pub of_below : (a b : ℕ) → b < a → nat_le a b ≡ false
of_below a b h = grind (arith, nat_tests)
