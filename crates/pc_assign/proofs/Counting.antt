-- How many of the first numbers are in a set.
use Rattle.std.proofs.Common.{◌≡◌, ℕ, zero, suc, ◌+◌, ◌<◌, ◌≤◌, Bool, true, false, cond, ◌&&◌, ◌||◌, List, [], ◌∷◌, length, refl, ap, arith}
use Rattle.std.specs.Prelude.{nat_eq, count_by}
use Rattle.std.proofs.lemmas.Bool.Decides.{nat_tests}
use Rattle.pc_word.proofs.Lists.{count_more}
use Rattle.pc_window.specs.Rebasing.{is_in}
use Rattle.pc_assign.specs.models.Choosing.{used_holds}

-- 1 for true
abbrev pub tally : Bool → ℕ
tally b = cond b 1 0

-- how many numbers below `n` are in a set
abbrev pub members : (ℕ → Bool) → ℕ → ℕ
members set zero = 0
members set (suc n) = tally (set n) + members set n

either_one : (a b : Bool) → tally (a || b) ≤ tally a + tally b
either_one true true = omega arith
either_one true false = omega arith
either_one false true = omega arith
either_one false false = omega arith

-- of two sets
pub members_or : (f g : ℕ → Bool) (n : ℕ) → members (λ x. f x || g x) n ≤ members f n + members g n
members_or f g zero = omega arith
members_or f g (suc n) = omega (arith, either_one (f n) (g n), members_or f g n)

-- of equal sets
pub members_same : (f g : ℕ → Bool) (n : ℕ) → ((x : ℕ) → f x ≡ g x) → members f n ≡ members g n
members_same f g n h = ap (λ (set : ℕ → Bool). members set n) (λ i x. h x i)

-- of the empty set
pub members_none : (f : ℕ → Bool) (n : ℕ) → ((x : ℕ) → f x ≡ false) → members f n ≡ 0
members_none f zero h = refl
members_none f (suc n) h = let here : tally (f n) ≡ 0 = ap tally (h n) in omega (arith, here, members_none f n h)

other_of : (n r : ℕ) → n < r → nat_eq n r ≡ false
other_of n r h = grind (arith, nat_tests)

one_above : (r n : ℕ) → n ≤ r → members (λ x. nat_eq x r) n ≡ 0
one_above r zero h = refl
one_above r (suc n) h = let here : tally (nat_eq n r) ≡ 0 = ap tally (other_of n r (omega arith)) in omega (arith, here, one_above r n (omega arith))

at_most_one : (b : Bool) → tally b ≤ 1
at_most_one true = omega arith
at_most_one false = omega arith

-- of a set of one
pub members_one : (r n : ℕ) → members (λ x. nat_eq x r) n ≤ 1
members_one r zero = omega arith
members_one r (suc n) = by (nat_eq n r) refl (members_one r n)
  where
    same_of : (m k : ℕ) → nat_eq m k ≡ true → m ≡ k
    same_of m k h = grind (arith, nat_tests)

    by : (b : Bool) → nat_eq n r ≡ b → members (λ x. nat_eq x r) n ≤ 1 → members (λ x. nat_eq x r) (suc n) ≤ 1
    by true is h =
        let none : members (λ x. nat_eq x r) n ≡ 0 = one_above r n (omega (arith, same_of n r is)) in
        omega (arith, at_most_one (nat_eq n r), none)
    by false is h = let none : tally (nat_eq n r) ≡ 0 = ap tally is in omega (arith, none, h)

guarded : (b : Bool) (r n : ℕ) → members (λ x. b && nat_eq x r) n ≤ tally b
guarded true r n = members_one r n
guarded false r n = omega (arith, members_none (λ x. false) n (λ x. refl))

-- of the registers of used parameters
pub members_used : (used : ℕ → Bool) (names held : List ℕ) (n : ℕ) → members (used_holds used names held) n ≤ count_by used names
members_used used [] held n = omega (arith, members_none (used_holds used [] held) n (λ x. refl))
members_used used (name ∷ names) [] n = omega (arith, members_none (used_holds used (name ∷ names) []) n (λ x. refl))
members_used used (name ∷ names) (r ∷ held) n =
    omega (
      arith,
      members_or (λ x. used name && nat_eq x r) (used_holds used names held) n,
      guarded (used name) r n,
      members_used used names held n,
      count_more used name names,
    )

-- of a list
pub members_in : (xs : List ℕ) (n : ℕ) → members (λ x. is_in x xs) n ≤ length xs
members_in [] n = omega (arith, members_none (λ x. is_in x []) n (λ x. refl))
members_in (r ∷ xs) n = omega (arith, members_or (λ x. nat_eq x r) (λ x. is_in x xs) n, members_one r n, members_in xs n)

-- of a set that has them all
pub members_all : (f : ℕ → Bool) (n : ℕ) → ((x : ℕ) → x < n → f x ≡ true) → members f n ≡ n
members_all f zero h = refl
members_all f (suc n) h =
    let rest : members f n ≡ n = members_all f n (λ x k. h x (omega arith)) in
    let here : tally (f n) ≡ 1 = ap tally (h n (omega arith)) in
    omega (arith, rest, here)
