-- Stores that only grow keep all trees.
use Rattle.std.proofs.Common.{◌≡◌, ◌≢◌, ℕ, zero, suc, true, false, Option, Some, None, IsSome, refl, ap, sym, subst, ◌∙◌, arith, cond}
use Rattle.std.proofs.lemmas.Bool.Decides.{nat_tests}
use Rattle.std.specs.Ordering.{nat_cmp, eq_by_cmp}
use Rattle.std.specs.Cmp.{unsigned_tied, nat_cmp_total}
use Rattle.std.specs.FinMap.{FinMap, get, insert, get-insert}
use Rattle.pc_arena.specs.Held.{Held, value_at, Holds}
use Rattle.pc_shared.specs.declared.store.Store.{Store}
use Rattle.pc_shared.specs.Unfolding.{Carries, KeepsTrees, Extends}
use Rattle.pc_shared.proofs.Standing.{stands_there}
use Rattle.pc_shared.proofs.Carrying.{carries_on}

-- ---- what an insertion leaves

tied_other : (q k : ℕ) → q ≢ k → eq_by_cmp nat_cmp q k ≡ false
tied_other q k differs = grind (arith, unsigned_tied q k, nat_tests)

tied_same : (k : ℕ) → eq_by_cmp nat_cmp k k ≡ true
tied_same k = grind (arith, unsigned_tied k k, nat_tests)

module _ {T : Type 0} where
  pub get_other : (values : FinMap nat_cmp T) (k q : ℕ) (value : T) → q ≢ k → get (insert values k value) q ≡ get values q
  get_other values k q value differs = get-insert nat_cmp_total values k value q
      ∙ ap (λ b. cond b (Some value) (get values q)) (tied_other q k differs)

  pub get_same : (values : FinMap nat_cmp T) (k : ℕ) (value : T) → get (insert values k value) k ≡ Some value
  get_same values k value = get-insert nat_cmp_total values k value k ∙ ap (λ b. cond b (Some value) (get values k)) (tied_same k)

  none_is_not_some : (o : Option T) → o ≡ None → IsSome o → ⊥
  none_is_not_some None e there = absurd (cc)
  none_is_not_some (Some x) e there = absurd (cc)

  -- what is there has another number than what is not
  pub there_differs : (values : FinMap nat_cmp T) (q k : ℕ) → IsSome (get values q) → get values k ≡ None → q ≢ k
  there_differs values q k there vacant same = none_is_not_some (get values q) (ap (get values) same ∙ vacant) there

  -- what was put is there, and what was there stays
  pub put_there : (mid new : Held T) (id : ℕ) (value : T) → new.values ≡ insert mid.values id value → value_at new id ≡ Some value
  put_there mid new id value made = ap (λ m. get m id) made ∙ get_same mid.values id value

  pub put_stays : (old mid new : Held T) (id : ℕ) (value : T) → mid.values ≡ old.values → value_at mid id ≡ None
      → new.values ≡ insert mid.values id value
      → (q : ℕ) → Holds old q → value_at new q ≡ value_at old q
  put_stays old mid new id value same vacant made = λ q there.
      let in_mid : IsSome (get mid.values q) = subst (λ (m : FinMap nat_cmp T). IsSome (get m q)) (sym same) there in
      ap (λ m. get m q) made ∙ get_other mid.values id q value (there_differs mid.values q id in_mid vacant) ∙ ap (λ m. get m q) same

-- ---- all that was there

pub extends_itself : (store : Store) → Extends store store
extends_itself store = record { same_nodes = λ id there. refl; same_homes = λ id there. refl }

pub extends_nodes : (old new : Store) → ((id : ℕ) → Holds old.nodes id → value_at new.nodes id ≡ value_at old.nodes id)
    → new.homes ≡ old.homes → Extends old new
extends_nodes old new stay same = record { same_nodes = stay; same_homes = λ id there. ap (λ h. value_at h id) same }

pub extends_homes : (old new : Store) → ((id : ℕ) → Holds old.homes id → value_at new.homes id ≡ value_at old.homes id)
    → new.nodes ≡ old.nodes → Extends old new
extends_homes old new stay same = record { same_nodes = λ id there. ap (λ h. value_at h id) same; same_homes = stay }

pub ruleset growing = (put_there, put_stays, extends_itself, extends_nodes, extends_homes)

-- ---- all trees

grown : (old new : Store) → Extends old new → (most id : ℕ) → Carries old most id new most id
grown old new more zero id = λ stands. absurd stands
grown old new more (suc most) id = λ stands.
    let there = stands_there (suc most) old id stands in
    carries_on old new more.same_homes most most id id (more.same_nodes id there) (grown old new more most) stands

-- a store that only grew keeps all trees
pub extends_keeps : (old new : Store) → Extends old new → KeepsTrees old new
extends_keeps old new more = record { same = grown old new more }

-- so does one whose nodes have the same values
pub reserved_keeps : (old new : Store) → new.nodes.values ≡ old.nodes.values → new.homes ≡ old.homes → KeepsTrees old new
reserved_keeps old new same homes_same = extends_keeps old new (extends_nodes old new (λ id there. ap (λ m. get m id) same) homes_same)
