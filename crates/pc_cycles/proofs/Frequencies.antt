-- How often numbers stand in a list.
use Rattle.std.proofs.Common.{◌≡◌, ℕ, suc, ◌+◌, ◌≤◌, ◌<◌, ◌⊎◌, inl, inr, Bool, true, false, cond, List, [], ◌∷◌, ◌++◌, refl, sym, ◌∙◌, ap, subst, arith}
use Rattle.std.specs.Prelude.{nat_eq, nat_lt}
use Rattle.std.specs.declared.cmp.Ordering.TheVariants.{Less, Equal, Greater}
use Rattle.std.specs.Ordering.{is_lt, ord_max, nat_cmp}
use Rattle.std.proofs.lemmas.Bool.Decides.{nat_tests}
use Rattle.std.specs.List.{count_by, AllByRecursion}
use Rattle.pc_word.proofs.Lists.{count_more, all_both, all_imply}
use Rattle.pc_word.proofs.Places.{same_number}
use Rattle.pc_cycles.specs.Cycles.{IsGreatestCount}

-- the greatest count of those numbers that were looked at
pub record IsGreatestSoFar (numbers seen : List ℕ) (most : ℕ) : Type 0 where
  pub bound : AllByRecursion (λ number. count_by (nat_eq number) numbers ≤ most) seen
  pub common : ℕ
  pub reached : count_by (nat_eq common) numbers ≡ most

-- one that differs is not counted
passed : (number first : ℕ) (others : List ℕ) → nat_eq number first ≡ false → count_by (nat_eq number) (first ∷ others) ≡ count_by (nat_eq number) others
passed number first others e =
    let more = count_more (nat_eq number) first others in
    let none : ◌≡◌ {A = ℕ} (cond (nat_eq number first) 1 0) 0 = ap (λ (b : Bool). cond b 1 0) e in
    omega (arith, more, none)

-- a number that is counted stands somewhere, where what holds of each holds of it
counted_stands : (number : ℕ) (P : ℕ → Type 0) (numbers : List ℕ) → AllByRecursion P numbers → (count_by (nat_eq number) numbers ≡ 0) ⊎ P number
counted_stands number P [] all = inl refl
counted_stands number P (first ∷ others) all = by (nat_eq number first) refl (counted_stands number P others all.1)
  where
    by : (b : Bool) → nat_eq number first ≡ b → (count_by (nat_eq number) others ≡ 0) ⊎ P number → (count_by (nat_eq number) (first ∷ others) ≡ 0) ⊎ P number
    by true e rest = inr (subst P (sym (same_number number first e)) all.0)
    by false e (inr here) = inr here
    by false e (inl none) = inl (passed number first others e ∙ none)

pub greatest_at_last : (numbers : List ℕ) (most : ℕ) → IsGreatestSoFar numbers numbers most → IsGreatestCount numbers most
greatest_at_last numbers most so_far = record {
  bound = λ number. elim (counted_stands number (λ number. count_by (nat_eq number) numbers ≤ most) numbers so_far.bound) [
    | inl none ↦ omega (arith, none)
    | inr few ↦ few
  ];
  common = so_far.common;
  reached = so_far.reached;
}

-- a number that is nowhere is greater than all
abbrev above : List ℕ → ℕ
above [] = 0
above (first ∷ others) = suc (first + above others)

nowhere : (xs : List ℕ) (number : ℕ) → above xs ≤ number → count_by (nat_eq number) xs ≡ 0
nowhere [] number h = refl
nowhere (x ∷ xs) number h = by (nat_eq number x) refl (nowhere xs number (omega (arith, h)))
  where
    greater : x < number
    greater = omega (arith, h)

    by : (b : Bool) → nat_eq number x ≡ b → count_by (nat_eq number) xs ≡ 0 → count_by (nat_eq number) (x ∷ xs) ≡ 0
    by true e rest = let same = same_number number x e in absurd (omega (arith, same, greater))
    by false e rest = passed number x xs e ∙ rest

pub none_seen : (numbers : List ℕ) → IsGreatestSoFar numbers [] 0
none_seen numbers = record { bound = tt; common = above numbers; reached = nowhere numbers (above numbers) (omega arith) }

-- one more is looked at
module _ (numbers seen : List ℕ) (most number count : ℕ) (so_far : IsGreatestSoFar numbers seen most) (is : count ≡ count_by (nat_eq number) numbers) where
  grown_to : (new : ℕ) → most ≤ new → count ≤ new → (common : ℕ) → count_by (nat_eq common) numbers ≡ new → IsGreatestSoFar numbers (seen ++ number ∷ []) new
  grown_to new more here common reached = record {
    bound =
        all_both (λ number. count_by (nat_eq number) numbers ≤ new) seen (number ∷ [])
        (all_imply (λ number. count_by (nat_eq number) numbers ≤ most) (λ number. count_by (nat_eq number) numbers ≤ new) seen
        (λ other few. omega (arith, few, more)) so_far.bound)
        (omega (arith, here, is), tt);
    common = common;
    reached = reached;
  }

  pub one_more_seen : IsGreatestSoFar numbers (seen ++ number ∷ []) (ord_max nat_cmp most count)
  one_more_seen = by (nat_lt count most) (nat_eq count most) refl
    where
      by : (b equal : Bool) → nat_lt count most ≡ b
          → IsGreatestSoFar numbers (seen ++ number ∷ []) (cond (is_lt (cond b Less (cond equal Equal Greater))) most count)
      by true equal e = let lt : count < most = grind (arith, nat_tests) in grown_to most (omega arith) (omega (arith, lt)) so_far.common so_far.reached
      by false true e = let le : most ≤ count = grind (arith, nat_tests) in grown_to count le (omega arith) number (sym is)
      by false false e = let le : most ≤ count = grind (arith, nat_tests) in grown_to count le (omega arith) number (sym is)

pub ruleset frequencies = (greatest_at_last, none_seen)
