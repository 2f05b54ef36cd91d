-- Places among terms, and terms put there.
use Rattle.std.proofs.Common.{◌≡◌, ◌≢◌, ℕ, suc, ◌<◌, ◌≤◌, List, [], ◌∷◌, ◌++◌, take, drop, length, Some, None, refl, ap, arith}
use Rattle.std.proofs.lemmas.Bool.Decides.{nat_tests}
use Rattle.std.specs.Prelude.{ℤ, ◌+ℤ◌, Bool, true, false, if◌then◌else◌, nat_eq, nat_lt, slice_index_or, remove}
use Rattle.std.specs.Int.{w32, int_wrap}
use Rattle.pc_linear.specs.declared.term.Term.{Term}
use Rattle.pc_linear.specs.Combine.{prepended, add_term}
use Rattle.pc_linear.specs.models.Places.{rank, factor_at}

-- a place is at most the end
pub rank-le : (v : ℕ) (ts : List Term) → rank v ts ≤ length ts
rank-le v [] = omega arith
rank-le v (t ∷ ts) = by_test (nat_lt t.variable v) (rank-le v ts)
  where
    by_test : (b : Bool) → rank v ts ≤ length ts → (if b then suc (rank v ts) else 0) ≤ suc (length ts)
    by_test true le = omega arith
    by_test false le = omega arith

-- past the end stands no factor
pub none_past_end : (v : ℕ) (ts : List Term) → length ts ≤ rank v ts → factor_at v ts ≡ None
none_past_end v [] le = refl
none_past_end v (t ∷ ts) le = by_test (nat_lt t.variable v) le (none_past_end v ts)
  where
    by_test : (b : Bool) → suc (length ts) ≤ (if b then suc (rank v ts) else 0) → (length ts ≤ rank v ts → factor_at v ts ≡ None)
        → (if b then factor_at v ts else if nat_eq v t.variable then Some t.factor else None) ≡ None
    by_test true le next = next (omega arith)
    by_test false le next = absurd (omega arith)

-- the term at a variable's place has its factor, where it is that variable's
pub some_there : (v : ℕ) (ts : List Term) (blank : Term) → rank v ts < length ts → (slice_index_or ts (rank v ts) blank).variable ≡ v
    → factor_at v ts ≡ Some (slice_index_or ts (rank v ts) blank).factor
some_there v [] blank lt e = absurd (omega arith)
some_there v (t ∷ ts) blank lt e = by_test (nat_lt t.variable v) lt e (some_there v ts blank)
  where
    same : t.variable ≡ v → nat_eq v t.variable ≡ true
    same e = grind arith

    by_test : (b : Bool) → (if b then suc (rank v ts) else 0) < suc (length ts) → (slice_index_or (t ∷ ts) (if b then suc (rank v ts) else 0) blank).variable ≡ v
        → (rank v ts < length ts → (slice_index_or ts (rank v ts) blank).variable ≡ v → factor_at v ts ≡ Some (slice_index_or ts (rank v ts) blank).factor)
        → (if b then factor_at v ts else if nat_eq v t.variable then Some t.factor else None) ≡ Some (slice_index_or (t ∷ ts) (if b then suc (rank v ts) else 0) blank).factor
    by_test true lt e next = next (omega arith) e
    by_test false lt e next = ap (λ (b : Bool). if b then Some t.factor else None) (same e)

-- and there is none where it is another's
pub none_there : (v : ℕ) (ts : List Term) (blank : Term) → rank v ts < length ts → (slice_index_or ts (rank v ts) blank).variable ≢ v → factor_at v ts ≡ None
none_there v [] blank lt e = absurd (omega arith)
none_there v (t ∷ ts) blank lt e = by_test (nat_lt t.variable v) lt e (none_there v ts blank)
  where
    other : t.variable ≢ v → nat_eq v t.variable ≡ false
    other e = grind arith

    by_test : (b : Bool) → (if b then suc (rank v ts) else 0) < suc (length ts) → (slice_index_or (t ∷ ts) (if b then suc (rank v ts) else 0) blank).variable ≢ v
        → (rank v ts < length ts → (slice_index_or ts (rank v ts) blank).variable ≢ v → factor_at v ts ≡ None)
        → (if b then factor_at v ts else if nat_eq v t.variable then Some t.factor else None) ≡ None
    by_test true lt e next = next (omega arith) e
    by_test false lt e next = ap (λ (b : Bool). if b then Some t.factor else None) (other e)

-- where a factor is found, its place is before the end
pub rank-place : (v : ℕ) (ts : List Term) (found : ℤ) → factor_at v ts ≡ Some found → rank v ts < length ts
rank-place v [] found e = absurd (cc)
rank-place v (t ∷ ts) found e = by_test (nat_lt t.variable v) e (rank-place v ts found)
  where
    by_test : (b : Bool) → (if b then factor_at v ts else if nat_eq v t.variable then Some t.factor else None) ≡ Some found → (factor_at v ts ≡ Some found → rank v ts < length ts)
        → (if b then suc (rank v ts) else 0) < suc (length ts)
    by_test true e next = let lt = next e in omega arith
    by_test false e next = omega arith

-- of two variables one is less, or they are one
not_both : (v x : ℕ) → nat_lt x v ≡ true → nat_lt v x ≡ true → ⊥
not_both v x p q = grind (arith, nat_tests)

not_less_same : (v x : ℕ) → nat_lt x v ≡ true → nat_eq v x ≡ true → ⊥
not_less_same v x p q = grind (arith, nat_tests)

not_same_less : (v x : ℕ) → nat_lt v x ≡ true → nat_eq v x ≡ true → ⊥
not_same_less v x p q = grind (arith, nat_tests)

one_of : (v x : ℕ) → nat_lt x v ≡ false → nat_lt v x ≡ false → nat_eq v x ≡ false → ⊥
one_of v x p q r = grind (arith, nat_tests)

-- a term is added at its variable's place, where that has none
pub put_none : (v : ℕ) (k : ℤ) (ts : List Term) → factor_at v ts ≡ None → take (rank v ts) ts ++ prepended v (int_wrap w32 k) (drop (rank v ts) ts) ≡ add_term v k ts
put_none v k [] h = refl
put_none v k (t ∷ ts) h = by_order (nat_lt t.variable v) (nat_lt v t.variable) (nat_eq v t.variable) refl refl refl h (put_none v k ts)
  where
    by_order : (below less equal : Bool) → nat_lt t.variable v ≡ below → nat_lt v t.variable ≡ less → nat_eq v t.variable ≡ equal
        → (if below then factor_at v ts else if equal then Some t.factor else None) ≡ None
        → (factor_at v ts ≡ None → take (rank v ts) ts ++ prepended v (int_wrap w32 k) (drop (rank v ts) ts) ≡ add_term v k ts)
        → take (if below then suc (rank v ts) else 0) (t ∷ ts) ++ prepended v (int_wrap w32 k) (drop (if below then suc (rank v ts) else 0) (t ∷ ts))
        ≡ (if less then prepended v (int_wrap w32 k) (t ∷ ts) else if equal then prepended v (int_wrap w32 (k +ℤ t.factor)) ts else t ∷ add_term v k ts)
    by_order true true equal p q r h next = absurd (not_both v t.variable p q)
    by_order true false true p q r h next = absurd (not_less_same v t.variable p r)
    by_order true false false p q r h next = ap (λ (us : List Term). t ∷ us) (next h)
    by_order false true equal p q r h next = refl
    by_order false false true p q r h next = absurd (cc)
    by_order false false false p q r h next = absurd (one_of v t.variable p q r)

-- and together with the factor that it has there
pub put_some : (v : ℕ) (k found : ℤ) (ts : List Term) → factor_at v ts ≡ Some found
    → take (rank v ts) (remove ts (rank v ts)) ++ prepended v (int_wrap w32 (k +ℤ found)) (drop (rank v ts) (remove ts (rank v ts))) ≡ add_term v k ts
put_some v k found [] h = absurd (cc)
put_some v k found (t ∷ ts) h = by_order (nat_lt t.variable v) (nat_lt v t.variable) (nat_eq v t.variable) refl refl refl h (put_some v k found ts)
  where
    inside : Some t.factor ≡ Some found → found ≡ t.factor
    inside e = cc

    by_order : (below less equal : Bool) → nat_lt t.variable v ≡ below → nat_lt v t.variable ≡ less → nat_eq v t.variable ≡ equal
        → (if below then factor_at v ts else if equal then Some t.factor else None) ≡ Some found
        → (factor_at v ts ≡ Some found → take (rank v ts) (remove ts (rank v ts)) ++ prepended v (int_wrap w32 (k +ℤ found)) (drop (rank v ts) (remove ts (rank v ts))) ≡ add_term v k ts)
        → take (if below then suc (rank v ts) else 0) (remove (t ∷ ts) (if below then suc (rank v ts) else 0))
        ++ prepended v (int_wrap w32 (k +ℤ found)) (drop (if below then suc (rank v ts) else 0) (remove (t ∷ ts) (if below then suc (rank v ts) else 0)))
        ≡ (if less then prepended v (int_wrap w32 k) (t ∷ ts) else if equal then prepended v (int_wrap w32 (k +ℤ t.factor)) ts else t ∷ add_term v k ts)
    by_order true true equal p q r h next = absurd (not_both v t.variable p q)
    by_order true false true p q r h next = absurd (not_less_same v t.variable p r)
    by_order true false false p q r h next = ap (λ (us : List Term). t ∷ us) (next h)
    by_order false true true p q r h next = absurd (not_same_less v t.variable q r)
    by_order false true false p q r h next = absurd (cc)
    by_order false false true p q r h next = ap (λ (z : ℤ). prepended v (int_wrap w32 (k +ℤ z)) ts) (inside h)
    by_order false false false p q r h next = absurd (cc)
