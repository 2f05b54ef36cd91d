-- Places on the way down a tree: at the root, below an item, on a side of a test.
use Rattle.std.proofs.Common.{◌≡◌, ◌≢◌, ℕ, zero, suc, ◌+◌, ◌-◌, ◌<◌, Bool, true, false, refl, sym, subst, lt-ltb, arith}
use Rattle.std.specs.Prelude.{nat_eq, nat_lt}
use Rattle.std.proofs.lemmas.Bool.{eqb-true, ltb-true}
use Rattle.pc_window.specs.Hold.{Side}

-- ---- places

pub not_zero : (n : ℕ) → nat_eq (suc n) 0 ≡ false
not_zero n = elim (nat_eq (suc n) 0) as (λ b. nat_eq (suc n) 0 ≡ b → b ≡ false) [
  | false ↦ λ e. refl
  | true ↦ λ e. absurd (let same : suc n ≡ 0 = eqb-true (suc n) 0 e in cc)
] refl

pub not_within : (n m : ℕ) → nat_lt (m + n) m ≡ false
not_within n m = elim (nat_lt (m + n) m) as (λ b. nat_lt (m + n) m ≡ b → b ≡ false) [
  | false ↦ λ e. refl
  | true ↦ λ e. absurd (let less : m + n < m = ltb-true (m + n) m e in omega arith)
] refl

module _ (At : Type 0) (Below : ℕ → Type 0) (n : ℕ) where
  -- below the root
  pub to_below : Below n → Side (nat_eq (suc n) 0) At (Below (suc n - 1))
  to_below h =
      let e : n ≡ suc n - 1 = omega arith in
      subst (λ (b : Bool). Side b At (Below (suc n - 1))) (sym (not_zero n)) (subst Below e h)

  pub from_below : Side (nat_eq (suc n) 0) At (Below (suc n - 1)) → Below n
  from_below h =
      let e : suc n - 1 ≡ n = omega arith in
      subst Below e (subst (λ (b : Bool). Side b At (Below (suc n - 1))) (not_zero n) h)

module _ (On_yes On_no : ℕ → Type 0) (n m : ℕ) where
  -- on the yes side
  pub to_yes : n < m → On_yes n → Side (nat_lt n m) (On_yes n) (On_no (n - m))
  to_yes less h = subst (λ (b : Bool). Side b (On_yes n) (On_no (n - m))) (sym (lt-ltb n m less)) h

  pub from_yes : n < m → Side (nat_lt n m) (On_yes n) (On_no (n - m)) → On_yes n
  from_yes less h = subst (λ (b : Bool). Side b (On_yes n) (On_no (n - m))) (lt-ltb n m less) h

  -- on the no side
  pub to_no : On_no n → Side (nat_lt (m + n) m) (On_yes (m + n)) (On_no (m + n - m))
  to_no h =
      let e : n ≡ m + n - m = omega arith in
      subst (λ (b : Bool). Side b (On_yes (m + n)) (On_no (m + n - m))) (sym (not_within n m)) (subst On_no e h)

  pub from_no : Side (nat_lt (m + n) m) (On_yes (m + n)) (On_no (m + n - m)) → On_no n
  from_no h =
      let e : m + n - m ≡ n = omega arith in
      subst On_no e (subst (λ (b : Bool). Side b (On_yes (m + n)) (On_no (m + n - m))) (not_within n m) h)

-- ---- tests that are true exactly where something holds

-- at the root, and below it
pub at_root : (place : ℕ) (At Below : Type 0) → place ≡ 0 → At → Side (nat_eq place 0) At Below
at_root place At Below e h = subst (λ (n : ℕ). Side (nat_eq n 0) At Below) (sym e) h

pub root_only : (place : ℕ) (At Below : Type 0) → place ≡ 0 → Side (nat_eq place 0) At Below → At
root_only place At Below e h = subst (λ (n : ℕ). Side (nat_eq n 0) At Below) e h

zero_test : (place : ℕ) → place ≢ 0 → nat_eq place 0 ≡ false
zero_test zero ne = absurd (ne refl)
zero_test (suc n) ne = not_zero n

pub under_root : (place : ℕ) (At Below : Type 0) → place ≢ 0 → Below → Side (nat_eq place 0) At Below
under_root place At Below ne h = subst (λ (b : Bool). Side b At Below) (sym (zero_test place ne)) h

pub below_only : (place : ℕ) (At Below : Type 0) → place ≢ 0 → Side (nat_eq place 0) At Below → Below
below_only place At Below ne h = subst (λ (b : Bool). Side b At Below) (zero_test place ne) h

pub side_first : (b : Bool) (P Q : Type 0) → b ≡ true → P → Side b P Q
side_first b P Q e h = subst (λ (c : Bool). Side c P Q) (sym e) h

pub first_only : (b : Bool) (P Q : Type 0) → b ≡ true → Side b P Q → P
first_only b P Q e h = subst (λ (c : Bool). Side c P Q) e h

pub side_second : (b : Bool) (P Q : Type 0) → b ≡ false → Q → Side b P Q
side_second b P Q e h = subst (λ (c : Bool). Side c P Q) (sym e) h

pub second_only : (b : Bool) (P Q : Type 0) → b ≡ false → Side b P Q → Q
second_only b P Q e h = subst (λ (c : Bool). Side c P Q) e h
